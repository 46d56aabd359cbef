-- `admission::refusals::tasks_test` meets its contract: the tasks that are left give the answer of the whole table.
use Prim.Native.Nat.{◌+◌}
use mathlib.Core.Path.{◌≡◌, refl, sym, ◌∙◌}
use native.Mathlib.Omega.{arith}
use Rattle.std.proofs.Common.{Err, rules}
use Rattle.units.specs.Refusals.{told, taken}
use Rattle.units.proofs.Refusals.{refuses}
use Rattle.admission.proofs.Tasks.{tasks_stop, tasks_go, tasks_end}
use Rattle.admission.proofs.refusals.tasks_test.Goals as goal

pub returns-in_err-task_test : goal.returns-in_err-task_test
returns-in_err-task_test c =
    let l = c.loop-k in
    let r = c.in_err-task_test.field-0.0 in
    let e : c.from_residual.result ≡ Err r = search rules in
    rw e (sym (tasks_stop c.args.table.now l.k (omega arith) (told r) c.in_err-task_test.ensures (λ z. refuses r.reason z)) ∙ l.invariant)

pub loop-k-preserved : goal.loop-k-preserved
loop-k-preserved c =
    let l = c.loop-k in
    sym (tasks_go c.args.table.now l.k (omega arith) taken c.in_ok-task_test.ensures refl) ∙ l.invariant

pub returns : goal.returns
returns c =
    let l = c.loop-k in
    sym (tasks_end c.args.table.now (l.k + 1) l.k (omega arith)) ∙ l.invariant
