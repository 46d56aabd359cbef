-- `scanning::line::read_pair_by` meets its contract.
use mathlib.Core.Path.{refl, sym}
use Rattle.scanning.specs.Line.{first_after, second_after}
use Rattle.scanning.proofs.line.read_pair_by.Goals as goal

pub returns-in_err-x : goal.returns-in_err-x
unfolding first_after
returns-in_err-x c = rw (sym c.in_err-x.ensures) c.from_residual.ensures

pub returns-in_err-y : goal.returns-in_err-y
unfolding first_after second_after
returns-in_err-y c = rw (sym c.in_ok-x.ensures, sym c.in_err-y.ensures) c.from_residual-in_err-y.ensures

pub returns : goal.returns
unfolding first_after second_after
returns c = rw (sym c.in_ok-x.ensures, sym c.in_ok-y.ensures) refl
