-- `arith::divisor::odd_gcd` meets its contract: each turn keeps the divisor of the pair, its first number odd, and takes a bit off one of the two.
use Prim.Native.Nat.{ℕ, ◌%◌}
use mathlib.Core.Path.{◌≡◌}
use Rattle.arith.specs.Bits.{halvings}
use Rattle.arith.specs.Divisor.{gcd}
use Rattle.arith.proofs.divisor.odd_gcd.Given as goal

-- the first number stays odd, and the pair's divisor that of the numbers that came in
pub record Stays (odd other x y : ℕ) : Type 0 where
  pub first : x % 2 ≡ 1
  pub same : gcd x y ≡ gcd odd other

abbrev pub invariant-loop-rest : goal.invariant-loop-rest
invariant-loop-rest l = Stays l.odd l.other l.kept l.rest

abbrev pub decreases-loop-rest : goal.decreases-loop-rest
decreases-loop-rest l = halvings l.kept l.rest
