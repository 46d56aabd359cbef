-- `admission::weights::weigh` meets its contract.
use Rattle.units.specs.Units.{nums}
use Rattle.admission.proofs.Weighing.{Weighing}
use Rattle.admission.proofs.weights.weigh.Given as goal

abbrev pub invariant-loop-k : goal.invariant-loop-k
invariant-loop-k l = Weighing l.common l.table (nums l.weights) l.sum.0 l.k
