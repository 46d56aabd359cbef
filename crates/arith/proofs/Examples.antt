-- Examples E9 and E10 of document 01, greatest common divisors, and how many halvings there are room for, by computation.
use mathlib.Core.Path.{◌≡◌, refl}
use mathlib.Core.List.{[], ◌∷◌}
use Rattle.std.proofs.Common.{Ok, Err}
use Rattle.arith.specs.Bits.{bits_in, bits_of, halvings}
use Rattle.arith.specs.Divisor.{euclid, gcd, lcm}
use Rattle.arith.specs.Period.{periods, period_of}

-- the second task's period takes the common period to 1,001,000
pub E9 : period_of (periods (1 ∷ 1000 ∷ 1 ∷ 1001 ∷ [])) ≡ Err 2
unfolding period_of lcm gcd euclid
E9 = refl

-- one tick less, and it is within the limit
pub E10 : period_of (periods (1 ∷ 999 ∷ 1 ∷ 1001 ∷ [])) ≡ Ok 999999
unfolding period_of lcm gcd euclid
E10 = refl

-- both numbers even
pub gcd_48_36 : gcd 48 36 ≡ 12
unfolding gcd euclid
gcd_48_36 = refl

-- with 0 the other number, and of 0 and 0 it is 0
pub gcd_0_7 : gcd 0 7 ≡ 7
unfolding gcd euclid
gcd_0_7 = refl

pub gcd_7_0 : gcd 7 0 ≡ 7
unfolding gcd euclid
gcd_7_0 = refl

pub gcd_0_0 : gcd 0 0 ≡ 0
unfolding gcd euclid
gcd_0_0 = refl

-- the largest of 32 bits
pub gcd_largest : gcd 4294967295 4294967294 ≡ 1
unfolding gcd euclid
gcd_largest = refl

pub gcd_periods : gcd 1000000 999999 ≡ 1
unfolding gcd euclid
gcd_periods = refl

-- they have room for all 64 halvings
pub halvings_largest : halvings 4294967295 4294967294 ≡ 64
unfolding bits_of bits_in
halvings_largest = refl
