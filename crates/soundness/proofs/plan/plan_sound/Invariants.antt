-- `soundness::plan::plan_sound` meets its contract: the tasks from i on are tested and summed.
use Rattle.soundness.proofs.Tasks.{Checked}
use Rattle.soundness.proofs.Summed.{Summed}
use Rattle.soundness.proofs.plan.plan_sound.Given as goal

abbrev pub invariant-loop-i : goal.invariant-loop-i
invariant-loop-i l = Checked l.plan l.divisor l.i × Summed l.plan l.sums l.i
