-- `assignment::pass_one` meets its contract.
use mathlib.Core.Path.{◌≡◌}
use lib.ListN.{length}
use Rattle.units.specs.Limits.{cores_limit}
use Rattle.units.specs.Units.{nums}
use Rattle.assignment.specs.Passes.{rows_of}
use Rattle.assignment.specs.Inner.{assign, from}
use Rattle.assignment.proofs.pass_one.Given as goal

abbrev pub invariant-loop-i : goal.invariant-loop-i
invariant-loop-i l =
    (length (nums l.left.shares) ≡ cores_limit)
    × (assign (nums l.weights) (from l.order l.i) (nums l.left.shares) (rows_of l.table)
    ≡ assign (nums l.weights) (from l.order l.initial.i) (nums l.initial.left.shares) (rows_of l.initial.table))
