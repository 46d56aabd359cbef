-- `rehearsal_answer::put_planned` meets its contract.
use mathlib.Core.Path.{refl}
use Rattle.units.proofs.Refusals.{refuses}
use Rattle.planning.specs.Plan.{refused_plan, taken_plan}
use Rattle.day_window.proofs.Windows.{recast}
use Rattle.rehearsal_answer.proofs.Texts.{due, table_refused, stop_above, stop_within, stoppable}
use Rattle.rehearsal_answer.proofs.put_planned.Goals as goal

pub returns-in-Err : goal.returns-in-Err
unfolding refused_plan
returns-in-Err c =
    let r = c.in-Err.refusal in
    due (table_refused _ _ _ _ _ c.in-Err.ensures (λ z. refuses r.reason z)) c.put_refusal_within.ensures refl

pub returns-then-day-gt-CLOCK : goal.returns-then-day-gt-CLOCK
unfolding taken_plan
returns-then-day-gt-CLOCK c =
    due (stop_above _ _ _ _ _ c.in-Ok.ensures refl c.if-day-gt-CLOCK.true) c.put_refusal_within-then-day-gt-CLOCK.ensures c.from.ensures

pub put_tested-requires : goal.put_tested-requires
unfolding taken_plan
put_tested-requires c =
    stoppable _ _ _ c.in-Ok.ensures refl c.if-day-gt-CLOCK.false

pub returns-else-day-gt-CLOCK : goal.returns-else-day-gt-CLOCK
unfolding taken_plan
returns-else-day-gt-CLOCK c =
    recast (stop_within _ _ _ _ _ c.in-Ok.ensures refl c.if-day-gt-CLOCK.false) c.put_tested.ensures
