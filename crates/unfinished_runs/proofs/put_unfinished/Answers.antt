-- `unfinished_runs::put_unfinished` meets its contract.
use Prim.Native.Nat.{◌*◌}
use mathlib.Core.Path.{refl}
use native.Mathlib.Numerals.{add-one}
use Rattle.day_window.proofs.Saying.{begun, onward}
use Rattle.units.specs.Limits.{runs_limit}
use Rattle.unfinished_runs.specs.Left.{left_by}
use Rattle.unfinished_runs.proofs.Left.{left_more}
use Rattle.unfinished_runs.proofs.put_unfinished.Goals as goal

pub loop-i-init : goal.loop-i-init
loop-i-init c = let s = c.args in begun (180 * runs_limit) (left_by s.seats s.had.now) s.count _ _ _ refl

pub loop-i-preserved : goal.loop-i-preserved
loop-i-preserved c =
    let s = c.args in
    let k = c.loop-i.i in
    onward (180 * runs_limit) (left_by s.seats s.had.now) s.count c.loop-i.invariant _ c.loop-i-test.true
    (left_more s.seats s.had.now k (add-one k)) c.put_runs-end.ensures.windowed c.put_runs-end.ensures.upper_bound refl
