-- `soundness::sums::Sums::with_fixed` meets its contract: the cores below p have the task's share.
use Rattle.soundness.proofs.Passed.{FixedPassed}
use Rattle.soundness.proofs.sums.Sums.with_fixed.Given as goal

abbrev pub invariant-loop-p : goal.invariant-loop-p
invariant-loop-p l = FixedPassed l.shares l.initial.sums l.p l.sums
