-- `task_shares::rows::sum_of` meets its contract: the shares so far and those that are left are all.
use Prim.Native.Nat.{◌+◌, ◌*◌, ◌≤◌}
use mathlib.Core.Path.{◌≡◌}
use lib.ListN.{drop}
use Rattle.lists.specs.Lists.{total as sum_of}
use Rattle.units.specs.Units.{nums}
use Rattle.task_shares.proofs.rows.sum_of.Given as goal

abbrev pub invariant-loop-s : goal.invariant-loop-s
invariant-loop-s l = (l.sum ≤ l.s-index * 4294967295) × (l.sum + sum_of (drop l.s-index (nums l.s-items)) ≡ sum_of (nums l.s-items))
