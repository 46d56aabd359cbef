-- `name_list::read_names` meets its contract.
use Prim.Native.Nat.{◌-◌}
use lib.ListN.{length}
use Rattle.name_list.proofs.Tallied.{Tallied}
use Rattle.name_list.proofs.read_names.Given as goal

abbrev pub invariant-loop-next : goal.invariant-loop-next
invariant-loop-next l = Tallied l.names l.at l.count

abbrev pub decreases-loop-next : goal.decreases-loop-next
decreases-loop-next l = length l.names - l.at
