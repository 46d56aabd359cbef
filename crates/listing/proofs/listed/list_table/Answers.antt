-- `listing::listed::list_table` meets its contract.
use mathlib.Core.Path.{◌≡◌, refl}
use Rattle.std.proofs.Common.{Err, rules}
use Rattle.units.specs.Refusals.{told}
use Rattle.units.proofs.Refusals.{refuses}
use Rattle.planning.specs.Plan.{refused_plan, taken_plan}
use Rattle.listing.proofs.Answers.{table_refused, table_sound, table_taken}
use Rattle.listing.proofs.listed.list_table.Goals as goal

pub returns-in_err-plan_of : goal.returns-in_err-plan_of
unfolding refused_plan
returns-in_err-plan_of c =
    let s = c.args in
    let r = c.in_err-plan_of.field-0.0 in
    let e : c.from_residual.result ≡ Err r = search rules in
    let a = table_refused s.cores s.table.now s.buf.now (refused_plan (told r)) c.in_err-plan_of.ensures (λ z. refuses r.reason z) in
    rw e (record { value = a.0; buf_after = a.1 })

pub list_plan-requires : goal.list_plan-requires
unfolding taken_plan
list_plan-requires c =
    let s = c.args in
    table_sound s.cores s.table.now s.buf.now (taken_plan c.in_ok-plan_of.field-0) c.in_ok-plan_of.ensures refl

pub returns : goal.returns
unfolding taken_plan
returns c =
    let s = c.args in
    let a = table_taken s.cores s.table.now s.buf.now (taken_plan c.in_ok-plan_of.field-0) c.in_ok-plan_of.ensures refl
    c.list_plan.ensures.value c.list_plan.ensures.buf_after in
    record { value = a.0; buf_after = a.1 }
