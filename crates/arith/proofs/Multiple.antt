-- The least common multiple is a multiple of both numbers and divides each number that is.
use Prim.Native.Nat.{ℕ, ◌*◌, ◌/◌, ◌%◌, ◌<◌, ◌∣◌}
use mathlib.Core.Path.{◌≡◌, ap}
use mathlib.Core.Logic.{⊎_elim}
use native.Mathlib.Nat.{
  mul_comm,
  mul-pos,
  mul-zero,
  eq-zero-or-pos,
  div-mul_cancel,
  mul-div_cancel',
  dvd_refl,
  dvd-zero,
  dvd-mul_left,
  dvd-mul_right,
  dvd_trans,
  dvd_antisymm,
  dvd_of_mod-eq-zero,
  mul-dvd-mul_left,
  mul-dvd-mul_right,
  dvd_of_mul-dvd-mul_left,
  dvd_of_mul-dvd-mul_right,
  pos_of_dvd_of_pos,
}
use native.Mathlib.Omega.{arith}
use Rattle.arith.specs.Divisor.{gcd, lcm}
use Rattle.arith.proofs.Euclid.{gcd_step, gcd_left, gcd_right, gcd_greatest, gcd_pos}

-- it is a multiple of the first
pub lcm_left : (a b : ℕ) → a ∣ lcm a b
unfolding lcm
lcm_left a b = rw (div-mul_cancel (gcd a b) (gcd_left a b)) at (mul-dvd-mul_left (gcd a b) (a / gcd a b) (gcd_right a b))

-- it is a multiple of the second
pub lcm_right : (a b : ℕ) → b ∣ lcm a b
unfolding lcm
lcm_right a b = dvd-mul_left b (a / gcd a b)

-- it and the greatest common divisor multiply to the product of the two
pub lcm_times : (a b : ℕ) → lcm a b * gcd a b ≡ a * b
unfolding lcm
lcm_times a b = omega (arith, ap (λ (x : ℕ). x * b) (div-mul_cancel (gcd a b) (gcd_left a b)))

-- the divisor of m times two numbers divides m times their divisor
pub gcd_scaled : (m a b : ℕ) → 0 < m → gcd (m * a) (m * b) ∣ m * gcd a b
gcd_scaled m a b h = go (gcd (m * a) (m * b) / m) (mul-div_cancel' m (gcd_greatest (m * a) (m * b) m (dvd-mul_right m a) (dvd-mul_right m b)))
  where
    go : (x : ℕ) → m * x ≡ gcd (m * a) (m * b) → gcd (m * a) (m * b) ∣ m * gcd a b
    go x e =
        let l : m * x ∣ m * a = rw e (gcd_left (m * a) (m * b)) in
        let r : m * x ∣ m * b = rw e (gcd_right (m * a) (m * b)) in
        rw (← e) (mul-dvd-mul_left x m (gcd_greatest a b x (dvd_of_mul-dvd-mul_left x h l) (dvd_of_mul-dvd-mul_left x h r)))

-- it divides every common multiple
pub lcm_least : (a b m : ℕ) → a ∣ m → b ∣ m → lcm a b ∣ m
lcm_least a b m l r = ⊎_elim (λ e. rw e (dvd-zero _)) some (eq-zero-or-pos m)
  where
    some : 0 < m → lcm a b ∣ m
    some h =
        let p : a * b ∣ m * a = rw (mul_comm m a) (mul-dvd-mul_left b a r) in
        let g : a * b ∣ gcd (m * a) (m * b) = gcd_greatest (m * a) (m * b) (a * b) p (mul-dvd-mul_right a l b) in
        dvd_of_mul-dvd-mul_right {k = gcd a b} (lcm a b) (gcd_pos a b (pos_of_dvd_of_pos l h))
        (rw lcm_times (dvd_trans (a * b) g (gcd_scaled m a b h)))

-- it is 0 if the second is
pub lcm_none : (a b : ℕ) → b ≡ 0 → lcm a b ≡ 0
unfolding lcm
lcm_none a b e = rw (e, mul-zero)

-- it is the first if the second divides that
pub lcm_whole : (a b : ℕ) → a % b ≡ 0 → lcm a b ≡ a
lcm_whole a b e = dvd_antisymm (lcm_least a b a (dvd_refl a) (dvd_of_mod-eq-zero b e)) (lcm_left a b)

-- it is the first by the divisor of the second and what is left of the first by it, times the second
pub lcm_step : (a b : ℕ) → 0 < b → lcm a b ≡ a / gcd b (a % b) * b
unfolding lcm
lcm_step a b h = rw (gcd_step a b h)

-- it is positive if both numbers are
pub lcm_pos : (a b : ℕ) → 0 < a → 0 < b → 0 < lcm a b
lcm_pos a b h k = pos_of_dvd_of_pos (dvd-mul_right (lcm a b) (gcd a b)) (rw lcm_times (mul-pos h k))
