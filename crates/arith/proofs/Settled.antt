-- Any two answers that a public function's contract allows are equal.
use mathlib.Core.Path.{sym, ◌∙◌}
use Rattle.lists.specs.Settled.{Settled}
use Rattle.arith.proofs.ceiling.ceil_div.Reads as CeilDiv
use Rattle.arith.proofs.divisor.gcd.Reads as Gcd
use Rattle.arith.proofs.period.common_period.Reads as CommonPeriod

pub ceil_div_lem : Settled CeilDiv.Post
ceil_div_lem κs a x y e f p q = p ∙ sym q

pub gcd : Settled Gcd.Post
gcd κs a x y e f p q = p ∙ sym q

pub common_period_lem : Settled CommonPeriod.Post
common_period_lem κs a x y e f p q = p ∙ sym q
