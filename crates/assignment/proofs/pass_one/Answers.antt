-- `assignment::pass_one` meets its contract.
use Prim.Native.Nat.{◌<◌}
use mathlib.Core.Path.{refl, sym, ap, ◌∙◌}
use native.Mathlib.Omega.{arith}
use lib.ListN.{length, length-set}
use Rattle.units.specs.Limits.{cores_limit}
use Rattle.units.specs.Units.{nums}
use Rattle.units.proofs.Units.{nums_at, nums_set}
use Rattle.assignment.proofs.Steps.{core_low, rows_set, one_next, misfit}
use Rattle.assignment.proofs.pass_one.Goals.{After-roomiest-p}
use Rattle.assignment.proofs.pass_one.Goals as goal

-- the core is one of the box's
roomiest-low : (c : After-roomiest-p) → c.roomiest-p.result < cores_limit
roomiest-low c = core_low (nums c.loop-i.left.shares) _ c.loop-i.invariant.0
    c.roomiest-p.ensures

pub offset_bounds-left-p : goal.offset_bounds-left-p
offset_bounds-left-p c = omega (arith, roomiest-low c)

pub bounds-left-p : goal.bounds-left-p
bounds-left-p c = roomiest-low c

pub returns-then-have-w : goal.returns-then-have-w
returns-then-have-w c =
    let at = c.loop-i in
    let most = c.roomiest-p in
    let have = nums_at at.left.shares most.result in
    c.pass_two.ensures
    ∙ misfit c.args.order c.requires at.i (nums c.args.weights) _ _ _ _ _ (omega arith) refl (sym (nums_at c.args.weights _)) most.ensures (omega arith)
    ∙ at.invariant.1

pub offset_bounds-row-p : goal.offset_bounds-row-p
offset_bounds-row-p c = omega (arith, roomiest-low (goal.at.offset_bounds-row-p c).After-roomiest-p)

pub bounds-row-p : goal.bounds-row-p
bounds-row-p c = roomiest-low (goal.at.bounds-row-p c).After-roomiest-p

pub offset_bounds-left-p-in-loop-i : goal.offset_bounds-left-p-in-loop-i
offset_bounds-left-p-in-loop-i c = omega (arith, roomiest-low (goal.at.offset_bounds-left-p-in-loop-i c).After-roomiest-p)

pub bounds-left-p-in-loop-i : goal.bounds-left-p-in-loop-i
bounds-left-p-in-loop-i c = roomiest-low (goal.at.bounds-left-p-in-loop-i c).After-roomiest-p

pub loop-i-preserved : goal.loop-i-preserved
loop-i-preserved c =
    let at = c.loop-i in
    let most = c.roomiest-p in
    let have = nums_at at.left.shares most.result in (
      ap length (nums_set at.left.shares _ _) ∙ length-set (nums at.left.shares) _ _ ∙ at.invariant.0,
      rw (rows_set at.table, nums_set at.left.shares, nums_set)
          (one_next c.args.order c.requires at.i (nums c.args.weights) _ _ _ _ _ _ at.invariant.0 (omega arith) refl (sym (nums_at c.args.weights _))
          most.ensures (omega arith) (omega arith) ∙ at.invariant.1),
    )
