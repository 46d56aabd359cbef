-- Laws of decimal text.
use Prim.Native.Nat.{ℕ, zero, suc, ◌+◌, ◌*◌, ◌/◌, ◌%◌, ◌^◌, ◌≤◌, ◌<◌}
use mathlib.Core.Path.{◌≡◌}
use mathlib.Core.List.{[], ◌∷◌, ◌++◌}
use native.Mathlib.Nat.{pow-suc}
use native.Mathlib.Omega.{arith}
use borrow.Author.Tests.{lt-ltb, le-ltb, ltb-true, ltb-false}
use lib.Dec.{ltb}
use lib.ListN.{length, length-append}
use Rattle.lists.proofs.Tests.{by_cases}
use Rattle.writing.specs.Decimal.{decimal_f, decimal_of}

-- one order or the other
pub either {ℓ} : {X : Type ℓ} (a b : ℕ) → (a < b → X) → (b ≤ a → X) → X
either a b f g = by_cases (ltb a b) (λ e. f (ltb-true a b e)) (λ e. g (ltb-false a b e))

-- any count of steps that is large enough gives the same digits
same_digits : (f g n : ℕ) → n < f → n < g → decimal_f f n ≡ decimal_f g n
unfolding decimal_f
same_digits zero g n p q = absurd (omega arith)
same_digits (suc f) zero n p q = absurd (omega arith)
same_digits (suc f) (suc g) n p q =
    either n 10
    (λ h. simp (lt-ltb n 10 h))
    (λ h. simp (le-ltb n 10 h, same_digits f g (n / 10) (omega arith) (omega arith)))

-- a number below ten is one digit
pub decimal_small : (n : ℕ) → n < 10 → decimal_of n ≡ (48 + n) ∷ []
unfolding decimal_of decimal_f
decimal_small n h =
    let e : n % 10 ≡ n = omega arith in
    simp (lt-ltb n 10 h, e)

-- any other is its tenth and then its last digit
pub decimal_large : (n : ℕ) → 10 ≤ n → decimal_of n ≡ decimal_of (n / 10) ++ ((48 + n % 10) ∷ [])
unfolding decimal_of decimal_f
decimal_large n h = simp (le-ltb n 10 h, same_digits n (suc (n / 10)) (n / 10) (omega arith) (omega arith))

-- a number below a power of ten has no more digits than that
pub decimal_length : (k n : ℕ) → n < 10 ^ suc k → length (decimal_of n) ≤ suc k
decimal_length zero n h = rw (decimal_small n (omega arith)) (omega arith)
decimal_length (suc k) n h =
    either n 10
    (λ p. rw (decimal_small n p) (omega arith))
    (λ p.
    let h10 : n < 10 ^ suc k * 10 = rw pow-suc at h in
    let ih : length (decimal_of (n / 10)) ≤ suc k = decimal_length k (n / 10) (omega arith) in
    rw (decimal_large n p, length-append) (omega arith))
