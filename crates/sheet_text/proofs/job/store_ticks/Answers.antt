-- `sheet_text::job::store_ticks` meets its contract.
use mathlib.Core.Path.{sym}
use native.Mathlib.Omega.{arith}
use Rattle.sheet_text.proofs.Jobs.{job_kept}
use Rattle.sheet_text.proofs.Stored.{start, more, whole}
use Rattle.sheet_text.proofs.job.store_ticks.Goals as goal

pub loop-c-init : goal.loop-c-init
loop-c-init c = start _ _ _ _

pub loop-c-preserved : goal.loop-c-preserved
loop-c-preserved c =
    more _ _ _ _ _ _ c.loop-c.invariant c.in-Some.c c.in-Some.t
    (sym c.in-Some.ensures) c.cost_ticks-cost.ensures c.period_ticks-period.ensures
    c.store.ensures c.store-in-Some.ensures

pub returns : goal.returns
returns c =
    let w = whole _ _ _ _ _ _ c.loop-c.invariant (sym c.in_default.ensures) in
    record { value = w.0; table_after = w.1 }

pub loop-c-smaller : goal.loop-c-smaller
loop-c-smaller c = omega (arith, c.loop-c.invariant.ahead, (job_kept _ _ _ _ _ (sym c.in-Some.ensures)).inside)
