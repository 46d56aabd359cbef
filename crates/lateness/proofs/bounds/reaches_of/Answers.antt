-- `lateness::bounds::reaches_of` meets its contract: the reaches of the first p cores are known.
use native.Mathlib.Omega.{arith}
use Prim.Native.Nat.{◌<◌}
use mathlib.Core.Path.{◌∙◌}
use Rattle.units.specs.Limits.{cores_limit}
use Rattle.lateness.proofs.Modest.{movers_in_range, movers_reach}
use Rattle.lateness.proofs.Reached.{reached_long, reached_none, reached_next, reached_le}
use Rattle.lateness.proofs.bounds.reaches_of.Goals as goal

pub loop-p-init : goal.loop-p-init
loop-p-init c = reached_none c.args.plan.common c.args.plan.lines

pub reach_on-requires : goal.reach_on-requires
reach_on-requires c =
    let at = c.loop-p in
    let b = reached_le c.args.plan c.requires.0 at.p in (
      reached_long c.args.plan.common c.args.plan.lines at.p (omega arith) at.reaches at.invariant,
      movers_in_range c.args.plan
          c.requires.0 at.p _ c.requires.1 at.reaches (omega arith) (rw at.invariant (omega arith)),
    )

pub loop-p-preserved : goal.loop-p-preserved
loop-p-preserved c =
    let pl = c.args.plan in
    let at = c.loop-p in
    let h : at.p < cores_limit = omega arith in
    reached_next pl.common pl.lines at.p h at.reaches c.reach_on.result at.invariant
    (c.reach_on.ensures ∙ movers_reach pl c.requires.0 at.p _ c.requires.1 at.reaches h)
