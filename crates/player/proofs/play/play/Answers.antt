-- `player::play::play` meets its contract.
use Rattle.writing.proofs.Wrote.{recast}
use native.Mathlib.Omega.{arith}
use Rattle.table_text.proofs.Answered.{is_unreadable, is_few, is_read, part_few, part_whole}
use Rattle.player.proofs.Gives.{too_long, table_bad, table_good}
use borrow.Author.Rules.{rules}
use mathlib.Core.Path.{refl}
use Rattle.player.proofs.play.play.Goals as goal

pub returns-then-text-gt-INPUT-clause-wrote : goal.returns-then-text-gt-INPUT-clause-wrote
returns-then-text-gt-INPUT-clause-wrote c =
    recast (too_long _ c.if-text-gt-INPUT.true) c.put_unreadable.ensures.wrote

pub slice_bounds-table-end : goal.slice_bounds-table-end
slice_bounds-table-end c = omega (arith, is_few _ c.in-Ok.ensures.value refl)

pub slice_bounds-play_table-end : goal.slice_bounds-play_table-end
slice_bounds-play_table-end c =
    part_whole _ c.read_text.new.table (omega (arith, is_few _ c.in-Ok.ensures.value refl))

pub play_table-requires : goal.play_table-requires
play_table-requires c =
    (search rules, part_few _ _ _ (is_few _ c.in-Ok.ensures.value refl))

pub returns-in-Err-clause-wrote : goal.returns-in-Err-clause-wrote
returns-in-Err-clause-wrote c =
    recast (table_bad _ c.if-text-gt-INPUT.false c.calls_place-place.ensures.value (is_unreadable _ c.in-Err.ensures.value refl))
    c.put_unreadable-in-Err.ensures.wrote

pub returns-in-Ok-clause-wrote : goal.returns-in-Ok-clause-wrote
returns-in-Ok-clause-wrote c =
    recast (table_good _ c.if-text-gt-INPUT.false c.calls_place-place.ensures.value
    (is_read _ c.in-Ok.ensures.value refl _ (search rules) c.in-Ok.ensures.table_after)) c.play_table.ensures.wrote
