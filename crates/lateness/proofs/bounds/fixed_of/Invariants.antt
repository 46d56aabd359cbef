-- `lateness::bounds::fixed_of` meets its contract: the bounds of the first p cores are known, and past the last core there is no mover.
use Rattle.lists.proofs.Filled.{Stored}
use Rattle.units.specs.Limits.{cores_limit}
use Rattle.lateness.specs.Lateness.{fixed_late}
use Rattle.lateness.proofs.bounds.fixed_of.Given as goal

abbrev pub invariant-loop-p : goal.invariant-loop-p
invariant-loop-p l = Stored 0 cores_limit (fixed_late l.plan.common l.reaches l.plan.lines) l.initial.bounds 0 l.p l.bounds
