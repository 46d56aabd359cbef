-- `lateness::bounds::fixed_of` meets its contract: the bounds of the first p cores are known, and past the last core there is no mover.
use native.Mathlib.Omega.{arith}
use Prim.Native.Nat.{◌≤◌, ◌<◌}
use mathlib.Core.Path.{sym, ◌∙◌}
use lib.Dec.{ltb}
use lib.ListN.{get_or-eq_default}
use borrow.Author.Tests.{ltb-true, ltb-false}
use Rattle.lists.proofs.Tests.{by_cases}
use Rattle.lists.proofs.Filled.{store_next}
use Rattle.units.specs.Limits.{cores_limit}
use Rattle.lateness.proofs.Modest.{movers_in_range, movers_late, fixed_beyond}
use Rattle.lateness.proofs.bounds.fixed_of.Goals as goal

pub fixed_on-requires : goal.fixed_on-requires
fixed_on-requires c = (
  c.requires.3,
  movers_in_range c.args.plan c.requires.0 c.loop-p.p _ c.requires.1 c.args.reaches.now (omega arith)
      c.requires.2,
)

pub loop-p-preserved : goal.loop-p-preserved
loop-p-preserved c =
    let at = c.loop-p in
    let h : at.p < cores_limit = omega arith in
    store_next _ _ _ _ 0 at.p at.bounds c.fixed_on.result at.invariant h
    (c.fixed_on.ensures ∙ movers_late c.args.plan c.requires.0 at.p _ c.requires.1 c.args.reaches.now h)

pub returns : goal.returns
returns c =
    let at = c.loop-p in
    λ q.
    by_cases (ltb q cores_limit)
    (λ e. at.invariant.done q (omega arith) (omega (arith, ltb-true q cores_limit e)))
    (λ e.
    let l : cores_limit ≤ q = ltb-false q cores_limit e in
    get_or-eq_default at.bounds 0 {n = q} (omega (arith, at.invariant.long)) ∙ sym (fixed_beyond c.args.plan c.requires.0 q c.args.reaches.now l))
