-- `dispatch::Record::fresh` meets its contract.
use mathlib.Core.Path.{◌≡◌, ap, ◌∙◌}
use Rattle.std.proofs.Common.{Err, rules}
use Rattle.units.specs.Refusals.{taken}
use Rattle.planning.specs.Plan.{Planned, refused_plan, taken_plan}
use Rattle.dispatch.specs.declared.Record.{Record}
use Rattle.dispatch.specs.Record.{Fresh, record_of, fresh_of}
use Rattle.dispatch.proofs.Record.fresh.Goals as goal

-- the fresh record of planning's answer
abbrev of_plan : Planned → Fresh
of_plan p = record { refusal = p.refusal; next = record_of p.plan }

pub returns-in_err-plan_of : goal.returns-in_err-plan_of
unfolding fresh_of refused_plan
returns-in_err-plan_of c =
    let r = c.in_err-plan_of.field-0.0 in
    let e : c.from_residual.result ≡ Err r = search rules in
    rw e (ap of_plan c.in_err-plan_of.ensures)

pub returns : goal.returns
unfolding fresh_of taken_plan
returns c = ap (λ (r : Record). record { refusal = taken; next = r }) c.of.ensures ∙ ap of_plan c.in_ok-plan_of.ensures
