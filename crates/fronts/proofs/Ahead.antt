-- A task's next release time ahead: it lies ahead, and no release time ahead is earlier.
use Prim.Native.Nat.{ℕ, ◌+◌, ◌-◌, ◌*◌, ◌/◌, ◌≤◌, ◌<◌}
use mathlib.Core.Path.{◌≡◌}
use mathlib.Core.Bool.{Bool, false, ◌||◌}
use native.Mathlib.Omega.{arith}
use native.Mathlib.Nat.{div-add-mod', le-div_iff_mul-le, mul-le-mul_right}
use lib.Dec.{ltb, leb, eqb}
use borrow.Author.Tests.{ltb-true, ltb-false, leb-false, lt-leb, eqb-false, ne_eqb}
use Rattle.lists.proofs.Tests.{by_cases, or_false_left, or_false_right}
use Rattle.fronts.specs.declared.Front.{Front}
use Rattle.fronts.specs.Front.{next_up, lesser, ahead_of}

-- the periods in a time are no more than it
pub steps_fit : (d period : ℕ) → d / period * period ≤ d
steps_fit d period = omega (arith, div-add-mod' d period)

-- it lies above t, up to the last
pub next_up_lem : (last period t : ℕ) → t < last → 0 < period → (t < next_up last period t) × (next_up last period t ≤ last)
next_up_lem last period t h p =
    let s = steps_fit (last - t - 1) period in
    (omega (arith, s), omega arith)

-- any instant of the row above t is no earlier
pub next_first : (last period t x q : ℕ) → t < x → x + q * period ≡ last → 0 < period → next_up last period t ≤ x
next_first last period t x q h e p =
    let k : q ≤ (last - t - 1) / period = (le-div_iff_mul-le p).1 (omega arith) in
    omega (arith, mul-le-mul_right period k)

-- the smaller of two numbers is no more than either, and above what both are above
module _ (a b : ℕ) where
  pub lesser_left : lesser a b ≤ a
  lesser_left = by_cases (ltb a b) (λ e. rw e (omega arith)) (λ e. rw e (ltb-false a b e))

  pub lesser_right : lesser a b ≤ b
  lesser_right = by_cases (ltb a b) (λ e. rw e (omega (arith, ltb-true a b e))) (λ e. rw e (omega arith))

  pub lesser_above : (t : ℕ) → t < a → t < b → t < lesser a b
  lesser_above t h k = by_cases (ltb a b) (λ e. rw e h) (λ e. rw e k)

module _ (f : Front) (t v : ℕ) where
  -- where no release time lies ahead
  abbrev past : Bool
  past = leb f.last.0 t || eqb f.period 0

  -- what is answered lies ahead, where the given instant does
  pub ahead_some : t < v → t < ahead_of f t v
  unfolding ahead_of
  ahead_some h =
      by_cases past
      (λ e. rw e h)
      (λ e.
      let l = leb-false f.last.0 t (or_false_left _ _ e) in
      let z = eqb-false f.period 0 (or_false_right (leb f.last.0 t) _ e) in
      let n : ℕ = next_up f.last.0 f.period t in
      rw e (lesser_above n v t (next_up_lem f.last.0 f.period t l (omega (arith, z))).0 h))

  -- and is no later than that
  pub ahead_most : ahead_of f t v ≤ v
  unfolding ahead_of
  ahead_most = by_cases past (λ e. rw e (omega arith)) (λ e. rw e (lesser_right (next_up f.last.0 f.period t) v))

  -- nor later than any release time of the task ahead
  pub ahead_first : (x q : ℕ) → t < x → x + q * f.period ≡ f.last.0 → 0 < f.period → ahead_of f t v ≤ x
  unfolding ahead_of
  ahead_first x q h e p =
      let l : leb f.last.0 t ≡ false = lt-leb f.last.0 t (omega arith) in
      let z : eqb f.period 0 ≡ false = ne_eqb f.period 0 (λ k. absurd (omega (arith, k))) in
      let n : ℕ = next_up f.last.0 f.period t in
      let first : n ≤ x = next_first f.last.0 f.period t x q h e p in
      rw (l, z) (omega (arith, lesser_left n v))
