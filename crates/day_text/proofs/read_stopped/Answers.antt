-- `day_text::read_stopped` meets its contract.
use mathlib.Core.Path.{sym}
use Rattle.day_text.proofs.Answers.{no_stop, stopped}
use Rattle.day_text.proofs.read_stopped.Goals as goal

pub returns-in_default : goal.returns-in_default
returns-in_default c =
    let s = c.args in
    let w = no_stop s.text.now s.arrivals.now s.cores s.count (sym c.in_default.ensures) in
    record { value = w.0; arrivals_after = w.1 }

pub returns : goal.returns
returns c =
    let s = c.args in
    let a = c.store_arrivals-numbers.ensures in
    let w = stopped s.text.now s.arrivals.now s.cores s.count (sym c.in-Some.ensures) a.numbers_value a.arrivals_after in
    record { value = w.0; arrivals_after = w.1 }
