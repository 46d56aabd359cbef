-- `day_text::line::stop_here` meets its contract.
use mathlib.Core.Path.{refl}
use Rattle.day_text.specs.Line.{stop_here}
use Rattle.day_text.proofs.line.stop_here.Goals as goal

pub returns-then-line_starts : goal.returns-then-line_starts
unfolding stop_here
returns-then-line_starts c = rw (← c.line_starts.ensures, c.if-line_starts.true, ← c.read_stop.ensures) c.is_some.ensures

pub returns-else-line_starts : goal.returns-else-line_starts
unfolding stop_here
returns-else-line_starts c = rw (← c.line_starts.ensures, c.if-line_starts.false) refl
