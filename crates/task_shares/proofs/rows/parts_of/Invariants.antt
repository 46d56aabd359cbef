-- `task_shares::rows::parts_of` meets its contract: the shares so far and those that are left are all.
use Prim.Native.Nat.{◌+◌, ◌≤◌}
use mathlib.Core.Path.{◌≡◌}
use lib.ListN.{drop}
use Rattle.lists.specs.Lists.{parts as parts_of}
use Rattle.units.specs.Units.{nums}
use Rattle.task_shares.proofs.rows.parts_of.Given as goal

abbrev pub invariant-loop-s : goal.invariant-loop-s
invariant-loop-s l = (l.parts ≤ l.s-index) × (l.parts + parts_of (drop l.s-index (nums l.s-items)) ≡ parts_of (nums l.s-items))
