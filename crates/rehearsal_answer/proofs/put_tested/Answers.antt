-- `rehearsal_answer::put_tested` meets its contract.
use mathlib.Core.Path.{refl}
use Rattle.units.proofs.Refusals.{refuses}
use Rattle.day_window.proofs.Windows.{recast}
use Rattle.rehearsal_answer.proofs.Texts.{due, arrival_refused, line_left, day_follows, rehearsable}
use Rattle.rehearsal_answer.proofs.put_tested.Goals as goal

pub returns-in-Err : goal.returns-in-Err
returns-in-Err c =
    let r = c.in-Err.refusal in
    due (arrival_refused _ _ _ _ c.in-Err.ensures (λ z. refuses r.reason z)) c.put_refusal_within.ensures refl

pub returns-then-day : goal.returns-then-day
returns-then-day c =
    due (line_left _ _ _ _ c.in_default.ensures refl c.if-day.true) c.put_refusal_within-then-day.ensures refl

pub write_day-requires : goal.write_day-requires
write_day-requires c =
    rehearsable _ _ _ c.in_default.ensures refl c.requires

pub returns : goal.returns
returns c =
    recast (day_follows _ _ _ _ c.in_default.ensures refl c.if-day.false) c.write_day.ensures.windowed
