-- `day_text::line::read_stop` meets its contract.
use mathlib.Core.Path.{sym}
use Rattle.day_text.specs.Line.{stop_after, stop_line}
use Rattle.day_text.proofs.line.read_stop.Goals as goal

pub returns-in_err-next : goal.returns-in_err-next
unfolding stop_after stop_line
returns-in_err-next c = rw (sym c.in_err-next.ensures) c.from_residual.ensures

pub returns : goal.returns
unfolding stop_after stop_line
returns c = rw (sym c.in_ok-next.ensures) c.read_field.ensures
