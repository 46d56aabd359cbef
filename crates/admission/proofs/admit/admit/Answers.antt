-- `admission::admit::admit` meets its contract.
use mathlib.Core.Path.{◌≡◌, sym, ap}
use Rattle.std.proofs.Common.{Err, rules}
use Rattle.units.specs.Refusals.{Refusal, told}
use Rattle.units.proofs.Refusals.{refuses}
use Rattle.admission.proofs.Admitting.{answered, input_decides}
use Rattle.admission.proofs.admit.admit.Goals as goal

pub returns-in_err-input_test : goal.returns-in_err-input_test
returns-in_err-input_test c =
    let s = c.args in
    let r = c.in_err-input_test.field-0.0 in
    let e : c.from_residual.result ≡ Err r = search rules in
    rw e (answered s.cores s.table.now (told r)
    (input_decides s.cores s.table.now (told r) c.in_err-input_test.ensures (λ z. refuses r.reason z)) (λ z. refuses r.reason z))

pub admit_tasks-requires : goal.admit_tasks-requires
admit_tasks-requires c = sym (ap (λ (r : Refusal). r.no) c.in_ok-input_test.ensures)
