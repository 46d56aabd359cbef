-- `player::play::play_table` meets its contract.
use Prim.Native.Nat.{◌+◌, ◌/◌}
use mathlib.Core.Path.{◌≡◌}
use lib.ListN.{length}
use Rattle.writing.proofs.Wrote.{recast}
use Rattle.calls_text.specs.Input.{bad_call}
use Rattle.player.proofs.Gives.{no_calls, bad_call_lem, good_calls}
use Rattle.player.proofs.play.play_table.Goals.{After-first_bad-bad}
use Rattle.player.proofs.play.play_table.Goals as goal

-- the first unreadable call, the first call's line given: after the core count, the tasks and `calls`
first_line : (c : After-first_bad-bad) → let s = c.args in
    c.first_bad-bad.result ≡ bad_call s.text.now (3 + length s.table.now / 2) (s.place + 6)
first_line c = c.first_bad-bad.ensures

pub returns-then-text-place-clause-wrote : goal.returns-then-text-place-clause-wrote
returns-then-text-place-clause-wrote c =
    recast (no_calls _ _ _ _ c.if-text-place.true) c.put_unreadable.ensures.wrote

pub returns-then-bad-ne0-clause-wrote : goal.returns-then-bad-ne0-clause-wrote
returns-then-bad-ne0-clause-wrote c =
    recast (bad_call_lem _ _ _ _ c.if-text-place.false (first_line (goal.at.returns-then-bad-ne0-clause-wrote c).After-first_bad-bad)
    c.if-bad-ne0.true) c.put_unreadable-then-bad-ne0.ensures.wrote

pub returns-clause-wrote : goal.returns-clause-wrote
returns-clause-wrote c =
    recast (good_calls _ _ _ _ c.if-text-place.false (first_line (goal.at.returns-clause-wrote c).After-first_bad-bad) c.if-bad-ne0.false)
    c.play_taken.ensures.wrote
