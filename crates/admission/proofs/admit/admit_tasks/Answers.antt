-- `admission::admit::admit_tasks` meets its contract.
use mathlib.Core.Path.{sym, ap, ◌∙◌}
use mathlib.Core.List.{List}
use native.Mathlib.Omega.{arith}
use Rattle.units.specs.Units.{units}
use Rattle.units.specs.declared.share.Share.{Share}
use Rattle.units.proofs.Units.{units_nums}
use Rattle.units.specs.Refusals.{refusal, taken, weights_no, period_no}
use Rattle.admission.specs.Admission.{refused_with, taken_with}
use Rattle.admission.proofs.Admitting.{answered, over, heavy, light, weighable, cores_small}
use Rattle.admission.proofs.admit.admit_tasks.Goals as goal

pub weigh-requires : goal.weigh-requires
weigh-requires c = weighable c.args.cores c.args.table.now c.requires c.in-Ok.common (sym c.in-Ok.ensures)

pub overflow_mul-cores : goal.overflow_mul-cores
overflow_mul-cores c = omega (arith, cores_small c.args.cores c.args.table.now c.requires c.in-Ok.common (sym c.in-Ok.ensures))

pub returns-then-cores-common : goal.returns-then-cores-common
returns-then-cores-common c =
    let a = c.args in
    ap refused_with c.from.ensures ∙ answered a.cores a.table.now (refusal weights_no 0)
    (heavy a.cores a.table.now c.requires c.in-Ok.common (sym c.in-Ok.ensures) (omega (arith, c.weigh.ensures.1, c.if-cores-common.true)))
    (λ z. omega arith)

pub returns-in-Err : goal.returns-in-Err
returns-in-Err c =
    let a = c.args in
    answered a.cores a.table.now (refusal period_no c.in-Err.named)
    (over a.cores a.table.now c.requires c.in-Err.named (sym c.in-Err.ensures))
    (λ z. omega arith)

pub returns : goal.returns
unfolding taken_with
returns c =
    let w = c.weigh in
    ap (λ (ws : List Share). record { refusal = taken; common = c.in-Ok.common; weights = ws })
    (sym (units_nums w.result.weights) ∙ ap units w.ensures.0)
    ∙ light c.args.cores c.args.table.now c.requires c.in-Ok.common (sym c.in-Ok.ensures) (omega (arith, w.ensures.1, c.if-cores-common.false))
