-- `sheet_text::job::put_names` meets its contract.
use Prim.Native.Nat.{◌-◌}
use lib.ListN.{length}
use Rattle.sheet_text.proofs.Naming.{Naming}
use Rattle.sheet_text.proofs.job.put_names.Given as goal

abbrev pub invariant-loop-next : goal.invariant-loop-next
invariant-loop-next l = Naming l.sheet l.from l.initial.buf l.buf l.at l.end

abbrev pub decreases-loop-next : goal.decreases-loop-next
decreases-loop-next l = length l.sheet - l.at
