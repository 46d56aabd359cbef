-- A test of every number below n.
use Prim.Native.Nat.{ℕ, zero, suc, ◌+◌, ◌<◌}
use mathlib.Core.Path.{◌≡◌, refl, sym, ap, subst}
use mathlib.Core.Logic.{⊎_elim}
use mathlib.Core.Bool.{Bool, true, false, ◌&&◌, and-false}
use native.Mathlib.Nat.{eq-or-lt_of_le, le_of_suc-le-suc, not-suc-le-zero}
use native.Mathlib.Numerals.{add-one}
use native.Mathlib.Omega.{arith}
use Rattle.lists.proofs.Tests.{and_left, and_right, and_true}
use Rattle.lists.specs.Below.{all_below}

-- of none
pub all_none : (f : ℕ → Bool) → all_below 0 f ≡ true
unfolding all_below
all_none f = refl

-- of one more
pub all_more : (i : ℕ) (f : ℕ → Bool) → all_below i f ≡ true → f i ≡ true → all_below (i + 1) f ≡ true
unfolding all_below
all_more i f all here = rw add-one (and_true (f i) (all_below i f) here all)

-- one that fails decides
pub all_fails : (n i : ℕ) (f : ℕ → Bool) → i < n → f i ≡ false → all_below n f ≡ false
unfolding all_below
all_fails zero i f l e = absurd (not-suc-le-zero l)
all_fails (suc n) i f l e =
    ⊎_elim
    (λ q. rw (subst (λ (k : ℕ). f k ≡ false) q e))
    (λ lt. rw (all_fails n i f lt e) (and-false (f n)))
    (eq-or-lt_of_le (le_of_suc-le-suc l))

-- each holds
pub all_at : (n i : ℕ) (f : ℕ → Bool) → i < n → all_below n f ≡ true → f i ≡ true
unfolding all_below
all_at zero i f l e = absurd (not-suc-le-zero l)
all_at (suc n) i f l e =
    ⊎_elim
    (λ q. subst (λ (k : ℕ). f k ≡ true) (sym q) (and_left (f n) (all_below n f) e))
    (λ lt. all_at n i f lt (and_right (f n) (all_below n f) e))
    (eq-or-lt_of_le (le_of_suc-le-suc l))

-- from each
pub all_from : (n : ℕ) (f : ℕ → Bool) → ((i : ℕ) → i < n → f i ≡ true) → all_below n f ≡ true
unfolding all_below
all_from zero f h = refl
all_from (suc n) f h = and_true (f n) (all_below n f) (h n (omega arith)) (all_from n f (λ i l. h i (omega arith)))

-- the same of tests that agree
pub all_same : (n : ℕ) (f g : ℕ → Bool) → ((i : ℕ) → i < n → f i ≡ g i) → all_below n f ≡ all_below n g
unfolding all_below
all_same zero f g h = refl
all_same (suc n) f g h =
    rw (h n (omega arith)) (ap (λ (b : Bool). g n && b) (all_same n f g (λ i l. h i (omega arith))))

-- the last of them and the others
pub all_suc : (f : ℕ → Bool) (n : ℕ) → all_below (n + 1) f ≡ (f n && all_below n f)
unfolding all_below
all_suc f n = rw (add-one n)
