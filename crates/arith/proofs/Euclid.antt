-- The greatest common divisor divides both numbers and is divided by each number that does; no other number is so.
use Prim.Native.Nat.{ℕ, zero, suc, ◌%◌, ◌<◌, ◌∣◌}
use mathlib.Core.Path.{◌≡◌, refl}
use native.Mathlib.Nat.{mod-lt, zero-lt-suc, dvd_refl, dvd-zero, dvd-mod_iff, dvd_antisymm, pos_of_dvd_of_pos}
use native.Mathlib.Omega.{arith}
use Rattle.arith.specs.Divisor.{euclid, gcd}

-- more than b steps are enough
euclid_enough : (k l a b : ℕ) → b < k → b < l → euclid k a b ≡ euclid l a b
unfolding euclid
euclid_enough zero l a b h i = absurd (omega arith)
euclid_enough (suc k) zero a b h i = absurd (omega arith)
euclid_enough (suc k) (suc l) a zero h i = refl
euclid_enough (suc k) (suc l) a (suc b) h i =
    let m : a % suc b < suc b = mod-lt a (zero-lt-suc b) in
    euclid_enough k l (suc b) (a % suc b) (omega arith) (omega arith)

-- they end at a divisor of both
euclid_divides : (k a b : ℕ) → b < k → (euclid k a b ∣ a) × (euclid k a b ∣ b)
unfolding euclid
euclid_divides zero a b h = absurd (omega arith)
euclid_divides (suc k) a zero h = (dvd_refl a, dvd-zero a)
euclid_divides (suc k) a (suc b) h =
    let m : a % suc b < suc b = mod-lt a (zero-lt-suc b) in
    let d = euclid_divides k (suc b) (a % suc b) (omega arith) in
    ((dvd-mod_iff _ d.0).0 d.1, d.0)

-- each step keeps every common divisor
euclid_greatest : (k a b d : ℕ) → d ∣ a → d ∣ b → d ∣ euclid k a b
unfolding euclid
euclid_greatest zero a b d l r = l
euclid_greatest (suc k) a zero d l r = l
euclid_greatest (suc k) a (suc b) d l r = euclid_greatest k (suc b) (a % suc b) d r ((dvd-mod_iff d r).1 l)

-- the divisor of a number and 0
pub gcd_zero : (a : ℕ) → gcd a 0 ≡ a
unfolding gcd euclid
gcd_zero a = refl

-- Euclid's rule
pub gcd_step : (a b : ℕ) → 0 < b → gcd a b ≡ gcd b (a % b)
unfolding gcd euclid
gcd_step a zero h = absurd (omega arith)
gcd_step a (suc b) h = euclid_enough (suc b) (suc (a % suc b)) (suc b) (a % suc b) (mod-lt a h) (omega arith)

-- it divides the first
pub gcd_left : (a b : ℕ) → gcd a b ∣ a
unfolding gcd
gcd_left a b = (euclid_divides (suc b) a b (omega arith)).0

-- it divides the second
pub gcd_right : (a b : ℕ) → gcd a b ∣ b
unfolding gcd
gcd_right a b = (euclid_divides (suc b) a b (omega arith)).1

-- every common divisor divides it
pub gcd_greatest : (a b d : ℕ) → d ∣ a → d ∣ b → d ∣ gcd a b
unfolding gcd
gcd_greatest a b d l r = euclid_greatest (suc b) a b d l r

-- a common divisor that every common divisor divides is no other
pub gcd_unique : (a b g : ℕ) → g ∣ a → g ∣ b → ((d : ℕ) → d ∣ a → d ∣ b → d ∣ g) → g ≡ gcd a b
gcd_unique a b g l r most = dvd_antisymm (gcd_greatest a b g l r) (most (gcd a b) (gcd_left a b) (gcd_right a b))

-- it is positive if the first number is
pub gcd_pos : (a b : ℕ) → 0 < a → 0 < gcd a b
gcd_pos a b h = pos_of_dvd_of_pos (gcd_left a b) h
