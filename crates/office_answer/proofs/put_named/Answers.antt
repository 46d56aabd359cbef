-- `office_answer::put_named` meets its contract.
use mathlib.Core.Path.{refl, sym}
use borrow.Author.Rules.{rules}
use Rattle.writing.proofs.Wrote.{recast}
use Rattle.scanning.proofs.Fields.{field_ends}
use Rattle.office_answer.proofs.Texts.{due, no_tick, tick_out, tick_read}
use Rattle.office_answer.proofs.put_named.Goals.{in_default-via-in-Some+else-tick_in, in_default-via-in_default}
use Rattle.office_answer.proofs.put_named.Goals as goal

pub slice_bounds-put_written-count : goal.slice_bounds-put_written-count
slice_bounds-put_written-count c = field_ends _ _ _ _ _ _ (search rules) (sym c.in-Some.ensures)

pub slice_bounds-put_written-start : goal.slice_bounds-put_written-start
slice_bounds-put_written-start c = field_ends _ _ _ _ _ _ (search rules) (sym c.in-Some.ensures)

pub returns-in-Some-clause-wrote : goal.returns-in-Some-clause-wrote
returns-in-Some-clause-wrote c = recast (tick_read _ _ _ _ _ (sym c.in-Some.ensures)) c.put_written.ensures.wrote

pub returns-in_default-clause-wrote : goal.returns-in_default-clause-wrote
returns-in_default-clause-wrote c =
    elim c.in_default.branch [
      | in_default-via-in-Some+else-tick_in w ↦ due (tick_out _ _ _ _ _ (sym w.in-Some.ensures) (sym w.if-tick_in.ensures)) c.put_refused.ensures.wrote refl
      | in_default-via-in_default w ↦ due (no_tick _ _ _ _ _ (sym w.in_default.ensures)) c.put_refused.ensures.wrote refl
    ]
