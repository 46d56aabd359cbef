-- `soundness::lines::weight_is` meets its contract: the products around C × L fit, and they tell the quotient.
use native.Mathlib.Omega.{arith}
use Rattle.soundness.proofs.Ranges.{in_range, quotient_test}
use Rattle.soundness.proofs.lines.weight_is.Goals as goal

pub returns : goal.returns
returns c =
    let s = c.args in
    let r = in_range s.line c.requires in
    quotient_test s.line.weight.0 _ s.line.period.0 (omega arith)
