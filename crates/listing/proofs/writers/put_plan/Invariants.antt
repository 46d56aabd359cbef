-- `listing::writers::put_plan` meets its contract: after the first line those of the first i tasks are written.
use Prim.Native.Nat.{◌+◌, ◌*◌, ◌≤◌}
use Rattle.writing.specs.Wrote.{Wrote}
use Rattle.listing.specs.Listing.{tasks_text}
use Rattle.listing.proofs.writers.put_plan.Given as goal

abbrev pub invariant-loop-i : goal.invariant-loop-i
invariant-loop-i l =
    Wrote l.initial.buf l.initial.next (tasks_text l.plan.lines l.lates l.i) l.buf l.next × (l.next ≤ 1000 + 1000 * l.i)
