-- `assignment::roomiest` meets its contract.
use mathlib.Core.Path.{sym}
use native.Mathlib.Omega.{arith}
use borrow.Author.Rules.{rules}
use Rattle.units.specs.Limits.{cores_limit}
use Rattle.units.proofs.Units.{nums_long, nums_at}
use Rattle.assignment.proofs.Best.{better, kept}
use Rattle.assignment.proofs.roomiest.Goals.{then-most-here, else-most-here}
use Rattle.assignment.proofs.roomiest.Goals as goal

pub loop-p-preserved : goal.loop-p-preserved
loop-p-preserved c =
    let s = c.args.room.shares in
    let at = c.loop-p in
    let here = nums_at s at.p in
    let long = nums_long s cores_limit (search rules) in
    elim c.if-most-here.branch [
      | then-most-here w ↦ rw (w.best-is, w.most-is) (better _ _ _ _ at.invariant (omega arith) _ (sym here) (omega arith))
      | else-most-here w ↦ rw (w.best-is, w.most-is) (kept _ _ _ _ at.invariant (omega arith) (omega arith))
    ]
