-- What halving and subtracting do to the greatest common divisor.
use Prim.Native.Nat.{ℕ, ◌+◌, ◌*◌, ◌-◌, ◌/◌, ◌%◌, ◌≤◌, ◌<◌, ◌∣◌}
use mathlib.Core.Path.{◌≡◌, sym, ap, ap₂, ◌∙◌, subst}
use mathlib.Core.Logic.{⊎_elim}
use native.Mathlib.Nat.{
  eq-zero-or-pos,
  eq-one_of_dvd-one,
  dvd_trans,
  dvd_antisymm,
  dvd-mul_left,
  dvd-mul_right,
  dvd-mul_left_of_dvd,
  dvd-add_iff_right,
  dvd-sub,
  dvd-sub_iff_left,
  dvd_of_mod-eq-zero,
  mod-eq-zero_of_dvd,
  mul-dvd-mul_left,
}
use native.Mathlib.Omega.{arith}
use Rattle.arith.specs.Divisor.{gcd}
use Rattle.arith.proofs.Euclid.{gcd_zero, gcd_left, gcd_right, gcd_greatest, gcd_unique}
use Rattle.arith.proofs.Multiple.{gcd_scaled}

-- the order of the two numbers is no matter
pub gcd_comm : (a b : ℕ) → gcd a b ≡ gcd b a
gcd_comm a b = gcd_unique b a (gcd a b) (gcd_right a b) (gcd_left a b) (λ d l r. gcd_greatest a b d r l)

-- the divisor of 0 and a number is that number
pub gcd_none : (b : ℕ) → gcd 0 b ≡ b
gcd_none b = gcd_comm 0 b ∙ gcd_zero b

-- that of 1 and a number is 1
pub gcd_one : (b : ℕ) → gcd 1 b ≡ 1
gcd_one b = eq-one_of_dvd-one (gcd_left 1 b)

-- that of multiples is the multiple of theirs
gcd_times : (m a b : ℕ) → 0 < m → gcd (m * a) (m * b) ≡ m * gcd a b
gcd_times m a b h =
    dvd_antisymm (gcd_scaled m a b h)
    (gcd_greatest (m * a) (m * b) (m * gcd a b) (mul-dvd-mul_left (gcd a b) m (gcd_left a b)) (mul-dvd-mul_left (gcd a b) m (gcd_right a b)))

-- an even number is twice its half
twice_half : (n : ℕ) → n % 2 ≡ 0 → 2 * (n / 2) ≡ n
twice_half n e = omega arith

-- the divisor of two even numbers is twice that of their halves
pub gcd_even : (a b : ℕ) → a % 2 ≡ 0 → b % 2 ≡ 0 → gcd a b ≡ 2 * gcd (a / 2) (b / 2)
gcd_even a b e f = sym (ap₂ gcd (twice_half a e) (twice_half b f)) ∙ gcd_times 2 (a / 2) (b / 2) (omega arith)

-- what divides an odd number is odd
odd_divisor : (d a : ℕ) → d ∣ a → a % 2 ≡ 1 → d % 2 ≡ 1
odd_divisor d a l o =
    let even : d % 2 ≡ 0 → a % 2 ≡ 0 = λ e. mod-eq-zero_of_dvd 2 (dvd_trans 2 (dvd_of_mod-eq-zero 2 e) l) in
    ⊎_elim (λ e. absurd (omega (arith, o, even e))) (λ p. omega arith) (eq-zero-or-pos (d % 2))

-- an odd number that divides twice another divides that
odd_divides : (d h : ℕ) → d % 2 ≡ 1 → d ∣ 2 * h → d ∣ h
odd_divides d h o l =
    let k : 2 * (d / 2) + 1 ≡ d = omega arith in
    let e : d * h ≡ d / 2 * (2 * h) + h = omega (arith, ap (λ (x : ℕ). x * h) k) in
    (dvd-add_iff_right d (dvd-mul_left_of_dvd d l (d / 2))).1 (subst (λ (x : ℕ). d ∣ x) e (dvd-mul_right d h))

-- halving an even number beside an odd one changes nothing
pub gcd_half : (a b : ℕ) → a % 2 ≡ 1 → b % 2 ≡ 0 → gcd a (b / 2) ≡ gcd a b
gcd_half a b o e =
    let t = twice_half b e in
    gcd_unique a b (gcd a (b / 2)) (gcd_left a (b / 2))
    (dvd_trans (gcd a (b / 2)) (gcd_right a (b / 2)) (subst (λ (x : ℕ). b / 2 ∣ x) t (dvd-mul_left (b / 2) 2)))
    (λ d l r. gcd_greatest a (b / 2) d l (odd_divides d (b / 2) (odd_divisor d a l o) (subst (λ (x : ℕ). d ∣ x) (sym t) r)))

-- nor does taking the smaller number off the larger
pub gcd_less : (a b : ℕ) → a ≤ b → gcd a (b - a) ≡ gcd a b
gcd_less a b h =
    gcd_unique a b (gcd a (b - a)) (gcd_left a (b - a))
    ((dvd-sub_iff_left (gcd a (b - a)) h (gcd_left a (b - a))).0 (gcd_right a (b - a)))
    (λ d l r. gcd_greatest a (b - a) d l (dvd-sub d r l))

-- so of two odd numbers the smaller stays, and half of what the other has more
pub gcd_odd : (a b : ℕ) → a % 2 ≡ 1 → b % 2 ≡ 1 → a ≤ b → gcd a ((b - a) / 2) ≡ gcd a b
gcd_odd a b o p h = gcd_half a (b - a) o (omega arith) ∙ gcd_less a b h
