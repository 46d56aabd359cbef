-- `lateness::bounds::reaches_of` meets its contract: the reaches of the first p cores are known.
use mathlib.Core.Path.{◌≡◌}
use Rattle.lateness.proofs.Reached.{reached}
use Rattle.lateness.proofs.bounds.reaches_of.Given as goal

abbrev pub invariant-loop-p : goal.invariant-loop-p
invariant-loop-p l = l.reaches ≡ reached l.plan.common l.plan.lines l.p
