-- `sheet_reading::plan_jobs` meets its contract.
use mathlib.Core.Path.{◌≡◌, refl}
use Rattle.std.proofs.Common.{Err, length, rules}
use Rattle.units.proofs.Refusals.{refuses}
use Rattle.planning.specs.Plan.{refused_plan, taken_plan}
use Rattle.sheet_text.specs.Job.{jobs_from}
use Rattle.sheet_reading.specs.Read.{unread}
use Rattle.sheet_reading.proofs.Plans.{plan_no, plan_is}
use Rattle.sheet_reading.proofs.plan_jobs.Goals as goal

pub returns-in_err-plan : goal.returns-in_err-plan
unfolding refused_plan unread
returns-in_err-plan c =
    let s = c.args in
    let r = c.in_err-plan.field-0.0 in
    let e : c.from_residual.result ≡ Err r = search rules in
    rw e (plan_no s.tick (jobs_from (length s.sheet.now) s.sheet.now s.from) c.in_err-plan.ensures (λ z. refuses r.reason z))

pub returns : goal.returns
unfolding taken_plan
returns c = plan_is _ _ c.in_ok-plan.ensures refl c.put_names-length.ensures
