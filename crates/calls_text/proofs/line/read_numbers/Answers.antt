-- `calls_text::line::read_numbers` meets its contract.
use mathlib.Core.Path.{refl, sym}
use Rattle.calls_text.specs.Line.{as_call}
use Rattle.calls_text.proofs.line.read_numbers.Goals as goal

pub returns-in_err-i : goal.returns-in_err-i
unfolding as_call
returns-in_err-i g c = λ made h. rw (sym c.in_err-i.ensures) c.from_residual.ensures

pub returns : goal.returns
unfolding as_call
returns g c = λ made h. rw (sym c.in_ok-i.ensures, h _ _ _ c.call.ensures) refl
