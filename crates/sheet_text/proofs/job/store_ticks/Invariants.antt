-- `sheet_text::job::store_ticks` meets its contract.
use Prim.Native.Nat.{◌-◌}
use lib.ListN.{length}
use Rattle.sheet_text.proofs.Stored.{Stored}
use Rattle.sheet_text.proofs.job.store_ticks.Given as goal

abbrev pub invariant-loop-c : goal.invariant-loop-c
invariant-loop-c l = Stored l.sheet l.tick l.from l.initial.table l.table l.i l.at

abbrev pub decreases-loop-c : goal.decreases-loop-c
decreases-loop-c l = length l.sheet - l.i
