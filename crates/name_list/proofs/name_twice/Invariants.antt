-- `name_list::name_twice` meets its contract.
use Prim.Native.Nat.{◌-◌}
use lib.ListN.{length}
use Rattle.name_list.proofs.Compared.{Twice}
use Rattle.name_list.proofs.name_twice.Given as goal

abbrev pub invariant-loop-next : goal.invariant-loop-next
invariant-loop-next l = Twice l.names l.at

abbrev pub decreases-loop-next : goal.decreases-loop-next
decreases-loop-next l = length l.names - l.at
