-- `assignment::pass_two` meets its contract.
use Prim.Native.Nat.{◌+◌, ◌-◌, ◌≤◌}
use mathlib.Core.Path.{◌≡◌}
use lib.ListN.{length, drop}
use Rattle.units.specs.Limits.{cores_limit}
use Rattle.units.specs.Units.{nums}
use Rattle.assignment.specs.Passes.{rows_of}
use Rattle.assignment.specs.Inner.{assign_two, from}
use Rattle.assignment.proofs.Giving.{Giving}
use Rattle.assignment.proofs.pass_two.Given as goal

abbrev pub invariant-loop-need : goal.invariant-loop-need
invariant-loop-need l =
    Giving cores_limit l.initial.need.0 l.initial.p (drop l.initial.p (nums l.initial.left)) (nums l.row) (nums l.left) l.need.0 l.p

abbrev pub decreases-loop-need : goal.decreases-loop-need
decreases-loop-need l = l.need.0 + (cores_limit - l.p)

abbrev pub invariant-loop-i : goal.invariant-loop-i
invariant-loop-i l =
    (l.p ≤ cores_limit)
    × (length (nums l.left) ≡ cores_limit)
    × (assign_two l.p (nums l.weights) (from l.order l.i) (drop l.p (nums l.left)) (rows_of l.table)
    ≡ assign_two 0 (nums l.weights) (from l.order l.initial.i) (nums l.initial.left) (rows_of l.initial.table))
