-- `table_text::store_tasks` meets its contract.
use Prim.Native.Nat.{◌-◌}
use lib.ListN.{length}
use Rattle.table_text.proofs.Stored.{Stored}
use Rattle.table_text.proofs.store_tasks.Given as goal

abbrev pub invariant-loop-cost : goal.invariant-loop-cost
invariant-loop-cost l = Stored l.text l.from l.initial.table l.table l.i l.at

abbrev pub decreases-loop-cost : goal.decreases-loop-cost
decreases-loop-cost l = length l.text - l.i
