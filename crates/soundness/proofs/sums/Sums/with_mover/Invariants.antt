-- `soundness::sums::Sums::with_mover` meets its contract: the mover is counted on its first core, and the cores below p have its share.
use Rattle.soundness.proofs.Passed.{MoverPassed}
use Rattle.soundness.proofs.sums.Sums.with_mover.Given as goal

abbrev pub invariant-loop-p : goal.invariant-loop-p
invariant-loop-p l = MoverPassed l.shares l.initial.sums l.weight.0 l.p l.sums
