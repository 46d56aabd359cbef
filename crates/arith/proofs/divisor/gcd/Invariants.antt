-- `arith::divisor::gcd` meets its contract: each turn halves the second number, and where it halves the first too, their divisor.
use Prim.Native.Nat.{ℕ, ◌+◌, ◌*◌, ◌^◌, ◌≤◌, ◌<◌}
use mathlib.Core.Path.{◌≡◌}
use Rattle.arith.specs.Bits.{bits_of, halvings}
use Rattle.arith.specs.Divisor.{gcd}
use Rattle.arith.proofs.divisor.gcd.Given as goal

-- what is left of a and b: their divisor but for so many twos, for each of which b has lost a bit
pub record Halved (a b x y twos : ℕ) : Type 0 where
  pub first : 0 < x
  pub second : 0 < y
  pub same : gcd x y * 2 ^ twos ≡ gcd a b
  pub lost : twos + bits_of y ≤ bits_of b

abbrev pub invariant-loop-y : goal.invariant-loop-y
invariant-loop-y l = Halved l.a l.b l.x l.y l.twos

abbrev pub decreases-loop-y : goal.decreases-loop-y
decreases-loop-y l = halvings l.x l.y
