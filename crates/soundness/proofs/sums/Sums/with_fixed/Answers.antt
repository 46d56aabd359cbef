-- `soundness::sums::Sums::with_fixed` meets its contract: the cores below p have the task's share.
use mathlib.Core.Path.{◌≡◌}
use native.Mathlib.Omega.{arith}
use Rattle.units.specs.Limits.{cores_limit}
use Rattle.soundness.proofs.Passed.{load_fits, fixed_done}
use Rattle.soundness.proofs.sums.Sums.with_fixed.Goals as goal

pub overflow_add-sums : goal.overflow_add-sums
overflow_add-sums c =
    omega (arith, load_fits c.args.shares c.args.self _ _ c.loop-p.invariant.loads (omega arith) c.requires.0 c.requires.1)

pub returns : goal.returns
returns c =
    let e : c.loop-p.p ≡ cores_limit = omega arith in
    fixed_done c.args.shares c.args.self _ (rw e at c.loop-p.invariant) c.requires.2
