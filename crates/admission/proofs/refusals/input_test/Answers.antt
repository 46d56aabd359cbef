-- `admission::refusals::input_test` meets its contract.
use mathlib.Core.Path.{◌≡◌, refl}
use Rattle.std.proofs.Common.{Err, rules}
use Rattle.units.specs.Refusals.{said, told, taken}
use Rattle.units.proofs.Refusals.{refuses}
use Rattle.admission.proofs.First.{decides, leaves}
use Rattle.admission.specs.Refusals.{cores_test, table_test, tasks_test, input_test, ◌or_else◌}
use Rattle.admission.proofs.refusals.input_test.Goals as goal

pub returns-in_err-cores_test : goal.returns-in_err-cores_test
unfolding input_test
returns-in_err-cores_test c =
    let s = c.args in
    let r = c.in_err-cores_test.field-0.0 in
    let e : c.from_residual.result ≡ Err r = search rules in
    rw e (decides (told r) (cores_test s.cores) (table_test s.table.now or_else tasks_test 1 s.table.now)
    c.in_err-cores_test.ensures (λ z. refuses r.reason z))

pub returns-in_err-table_test : goal.returns-in_err-table_test
unfolding input_test
returns-in_err-table_test c =
    let s = c.args in
    let r = c.in_err-table_test.field-0.0 in
    let e : c.from_residual-in_err-table_test.result ≡ Err r = search rules in
    rw e (leaves taken (cores_test s.cores) (told r) (table_test s.table.now or_else tasks_test 1 s.table.now) c.in_ok-cores_test.ensures refl
    (decides (told r) (table_test s.table.now) (tasks_test 1 s.table.now) c.in_err-table_test.ensures (λ z. refuses r.reason z)))

pub returns : goal.returns
unfolding input_test
returns c =
    let s = c.args in
    let r = said c.tasks_test.result in
    leaves taken (cores_test s.cores) r (table_test s.table.now or_else tasks_test 1 s.table.now) c.in_ok-cores_test.ensures refl
    (leaves taken (table_test s.table.now) r (tasks_test 1 s.table.now) c.in_ok-table_test.ensures refl c.tasks_test.ensures)
