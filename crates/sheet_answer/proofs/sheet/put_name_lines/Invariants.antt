-- `sheet_answer::sheet::put_name_lines` meets its contract.
use Prim.Native.Nat.{◌-◌}
use lib.ListN.{length}
use Rattle.sheet_answer.proofs.NameLines.{Naming}
use Rattle.sheet_answer.proofs.sheet.put_name_lines.Given as goal

abbrev pub invariant-loop-next : goal.invariant-loop-next
invariant-loop-next l = Naming l.names l.at l.initial.buf l.buf l.place l.task l.end

abbrev pub decreases-loop-next : goal.decreases-loop-next
decreases-loop-next l = length l.names - l.place
