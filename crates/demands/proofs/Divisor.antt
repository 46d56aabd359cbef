-- Document 02, R-3: the greatest common divisor is worked out by halving and subtracting, and no answer changes.
-- `arith::divisor::gcd` answers `gcd a b`, by the contract that it had; here is what that is, why halving and subtracting find it, and how soon.
use Prim.Native.Nat.{ℕ, suc, ◌*◌, ◌-◌, ◌/◌, ◌%◌, ◌^◌, ◌≤◌, ◌<◌, ◌∣◌}
use mathlib.Core.Path.{◌≡◌}
use Rattle.arith.specs.Bits.{bits_of, halvings}
use Rattle.arith.specs.Divisor.{gcd}
use Rattle.arith.proofs.Euclid.{gcd_left, gcd_right, gcd_greatest}
use Rattle.arith.proofs.Halving.{gcd_none, gcd_even, gcd_half, gcd_less}
use Rattle.arith.proofs.Bits.{bits_half, half_fewer, halvings_most}

-- it divides both numbers
pub divides_both : (a b : ℕ) → (gcd a b ∣ a) × (gcd a b ∣ b)
divides_both a b = (gcd_left a b, gcd_right a b)

-- and every number that does divides it
pub greatest : (a b d : ℕ) → d ∣ a → d ∣ b → d ∣ gcd a b
greatest = gcd_greatest

-- the divisor of two even numbers is twice that of their halves
pub both_halved : (a b : ℕ) → a % 2 ≡ 0 → b % 2 ≡ 0 → gcd a b ≡ 2 * gcd (a / 2) (b / 2)
both_halved = gcd_even

-- halving one even number beside an odd one changes nothing
pub one_halved : (a b : ℕ) → a % 2 ≡ 1 → b % 2 ≡ 0 → gcd a (b / 2) ≡ gcd a b
one_halved = gcd_half

-- nor does taking the smaller number off the larger
pub taken_off : (a b : ℕ) → a ≤ b → gcd a (b - a) ≡ gcd a b
taken_off = gcd_less

-- where nothing is left of one number, the other is the answer
pub nothing_left : (b : ℕ) → gcd 0 b ≡ b
nothing_left = gcd_none

-- `halvings`, the bits of the two numbers in hand, is the measure of the routine's loops: each halving takes one off
pub takes_one_off : (n : ℕ) → 0 < n → bits_of n ≡ suc (bits_of (n / 2))
takes_one_off = bits_half

-- at least one, where part of the number or all of it was taken off before
pub less_and_halved : (m n : ℕ) → m ≤ n → 0 < n → bits_of (m / 2) < bits_of n
less_and_halved = half_fewer

-- so two numbers of 32 bits have room for at most 64 halvings
pub at_most_64 : (a b : ℕ) → a < 2 ^ 32 → b < 2 ^ 32 → halvings a b ≤ 64
at_most_64 = halvings_most
