-- `assignment::pass_two` meets its contract.
use Prim.Native.Nat.{◌<◌}
use mathlib.Core.Path.{refl, sym, ◌∙◌}
use native.Mathlib.Omega.{arith}
use Rattle.units.specs.Limits.{cores_limit}
use Rattle.units.specs.Units.{nums}
use Rattle.units.proofs.Units.{nums_at, nums_set}
use Rattle.assignment.proofs.Giving.{Step, going, start, next, last, done}
use Rattle.assignment.proofs.Steps.{rows_set, two_next}
use Rattle.assignment.proofs.pass_two.Goals.{After-rest-need, In-loop-need}
use Rattle.assignment.proofs.pass_two.Goals as goal

-- it needs more, and the pointer is at one of the box's cores
goes : (c : In-loop-need) → (0 < c.loop-need.need.0) × (c.loop-need.p < cores_limit)
goes c = going _ _ _ c.loop-need-test.true

-- it is given its share of that core
steps : (c : After-rest-need)
    → let at = c.loop-need in
    Step cores_limit (nums at.left) at.need.0 at.p c.smaller.result.0 c.rest.result.0 c.rest-need.result.0
steps c =
    let at = c.loop-need in
    let go = going _ _ _ c.loop-need-test.true in
    let have = nums_at at.left at.p in
    record { low = go.1; some = go.0; share = omega arith; rest = omega arith; more = omega arith }

pub loop-need-init : goal.loop-need-init
loop-need-init c =
    let at = c.loop-i in
    start _ _ _ _ at.invariant.0 at.invariant.1

pub loop-need-preserved-then-need-gt0 : goal.loop-need-preserved-then-need-gt0
loop-need-preserved-then-need-gt0 c =
    let at = c.loop-need in
    rw (nums_set at.row, nums_set at.left) (next _ _ _ _ _ _ _ _ at.invariant _ _ _
    (steps (goal.at.loop-need-preserved-then-need-gt0 c).After-rest-need) (omega arith))

pub loop-need-preserved : goal.loop-need-preserved
loop-need-preserved c =
    let at = c.loop-need in
    rw (nums_set at.row, nums_set at.left) (last _ _ _ _ _ _ _ _ at.invariant _ _ _ (steps (goal.at.loop-need-preserved c).After-rest-need) (omega arith))

pub loop-i-preserved : goal.loop-i-preserved
loop-i-preserved c =
    let at = c.loop-i in
    let at2 = c.loop-need in
    let end = done _ _ _ _ _ _ _ _ at2.invariant c.loop-need-test.false in (
      at2.invariant.below,
      at2.invariant.left_long,
      rw (rows_set at.table, end.0, end.2, end.1)
          (two_next c.args.order c.requires at.i (nums c.args.weights) _ _ _ _ _ (omega arith) refl (sym (nums_at c.args.weights _)) ∙ at.invariant.2),
    )
