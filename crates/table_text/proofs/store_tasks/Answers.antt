-- `table_text::store_tasks` meets its contract.
use native.Mathlib.Omega.{arith}
use mathlib.Core.Path.{sym}
use Rattle.table_text.proofs.Tables.{task_kept, task_inside}
use Rattle.table_text.proofs.Stored.{start, more, whole}
use Rattle.table_text.proofs.store_tasks.Goals as goal

pub loop-cost-init : goal.loop-cost-init
loop-cost-init c = start _ _ _

pub overflow_cast-cost : goal.overflow_cast-cost
overflow_cast-cost c =
    omega (arith, (task_kept _ _ _ _ _ (sym c.in-Some.ensures)).0)

pub overflow_cast-period : goal.overflow_cast-period
overflow_cast-period c =
    omega (arith, (task_kept _ _ _ _ _ (sym c.in-Some.ensures)).1)

pub loop-cost-smaller : goal.loop-cost-smaller
loop-cost-smaller c = omega (arith, c.loop-cost.invariant.ahead, task_inside _ _ _ _ _ (sym c.in-Some.ensures))

pub loop-cost-preserved : goal.loop-cost-preserved
loop-cost-preserved c =
    let l = c.loop-cost in
    let s1 = c.store in
    let s2 = c.store-in-Some in
    more _ _ _ _ _ l.invariant c.in-Some.cost c.in-Some.period (sym c.in-Some.ensures) s1.ensures s2.ensures

pub returns : goal.returns
returns c =
    let w = whole _ _ _ _ _ c.loop-cost.invariant (sym c.in_default.ensures) in
    record { value = w.0; table_after = w.1 }
