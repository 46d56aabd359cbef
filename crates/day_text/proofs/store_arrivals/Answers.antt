-- `day_text::store_arrivals` meets its contract.
use mathlib.Core.Path.{sym}
use Rattle.day_text.specs.Input.{lines_limit}
use Rattle.day_text.proofs.Kept.{start, more, ended, full}
use Rattle.day_text.proofs.store_arrivals.Goals as goal

pub loop-i-init : goal.loop-i-init
loop-i-init c = start lines_limit _ _ _

pub returns-in_default : goal.returns-in_default
returns-in_default c =
    let w = ended lines_limit _ _ _ _ _ c.loop-i.invariant (sym c.in_default.ensures) in
    record { numbers_value = w.0; arrivals_after = w.1 }

pub loop-i-preserved : goal.loop-i-preserved
loop-i-preserved c =
    let a = c.in-Some in
    more lines_limit _ _ _ _ _ c.loop-i.invariant a.time a.task a.length c.loop-i-test.true (sym a.ensures) c.store_arrival.ensures

pub returns : goal.returns
returns c =
    let w = full lines_limit _ _ _ _ _ c.loop-i.invariant c.loop-i-test.false c.loop-i.auto.i-end in
    record { numbers_value = w.0; arrivals_after = w.1 }
