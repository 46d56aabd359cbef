-- `day_text::line::read_arrival` meets its contract.
use mathlib.Core.Path.{refl, sym}
use Rattle.day_text.specs.Line.{after_time, from_time, arrival_line}
use Rattle.day_text.proofs.line.read_arrival.Goals as goal

pub returns-in_err-time : goal.returns-in_err-time
unfolding from_time arrival_line
returns-in_err-time c = rw (sym c.in_err-time.ensures) c.from_residual.ensures

pub returns-in_err-task : goal.returns-in_err-task
unfolding after_time from_time arrival_line
returns-in_err-task c = rw (sym c.in_ok-time.ensures, sym c.in_err-task.ensures) c.from_residual-in_err-task.ensures

pub returns : goal.returns
unfolding after_time from_time arrival_line
returns c = rw (sym c.in_ok-time.ensures, sym c.in_ok-task.ensures) refl
