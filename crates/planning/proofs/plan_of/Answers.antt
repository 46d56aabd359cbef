-- `planning::plan_of` meets its contract.
use mathlib.Core.Path.{◌≡◌, refl, ap, ◌∙◌}
use Rattle.std.proofs.Common.{Err, rules}
use Rattle.units.specs.Refusals.{told, taken}
use Rattle.units.proofs.Refusals.{refuses}
use Rattle.admission.specs.Admission.{Admission, refused_with}
use Rattle.planning.specs.Plan.{taken_plan}
use Rattle.planning.proofs.Answer.{refused, taken_plan_lem, taken_few}
use Rattle.planning.proofs.plan_of.Goals.{In_ok-common}
use Rattle.planning.proofs.plan_of.Goals as goal

-- what admission's answer tells where it is none of a refusal
abbrev admitted : In_ok-common → Admission
admitted c = record { refusal = taken; common = c.in_ok-common.field-0.common; weights = c.in_ok-common.field-0.weights }

pub returns-in_err-common : goal.returns-in_err-common
unfolding refused_with
returns-in_err-common c =
    let s = c.args in
    let r = c.in_err-common.field-0.0 in
    let e : c.from_residual.result ≡ Err r = search rules in
    rw e (refused s.cores s.table.now (refused_with (told r)) c.in_err-common.ensures (λ z. refuses r.reason z))

pub drawn-requires : goal.drawn-requires
drawn-requires c =
    let s = c.args in
    taken_few s.cores s.table.now (admitted (goal.at.drawn-requires c).In_ok-common) c.in_ok-common.ensures refl

pub returns : goal.returns
returns c =
    let s = c.args in
    ap taken_plan c.drawn.ensures ∙ taken_plan_lem s.cores s.table.now (admitted (goal.at.returns c).In_ok-common) c.in_ok-common.ensures refl
