-- `lateness::bounds::lates_of` meets its contract: the bounds of the first i tasks are known.
use lib.IntN.{pos}
use lib.ListN.{get_or}
use Rattle.units.specs.Limits.{tasks_limit}
use Rattle.lists.proofs.Filled.{Stored}
use Rattle.lateness.specs.Inner.{late_at, no_note}
use Rattle.lateness.proofs.bounds.lates_of.Given as goal

abbrev pub invariant-loop-i : goal.invariant-loop-i
invariant-loop-i l =
    Stored (pos 0) tasks_limit (λ i. late_at l.reaches l.fixed (get_or l.notes i no_note)) l.initial.lates 0 l.i l.lates
