-- What the runs have had after more ticks: as many numbers, each in its range, and one core more.
use Prim.Native.Nat.{ℕ, zero, suc, ◌+◌, ◌-◌, ◌*◌, ◌<◌, ◌≤◌}
use mathlib.Core.Path.{◌≡◌, refl, ◌∙◌}
use mathlib.Core.List.{List, [], ◌∷◌}
use native.Mathlib.Numerals.{add-one}
use native.Mathlib.Omega.{arith}
use lib.Dec.{ltb, eqb}
use lib.ListN.{length, get_or, set, length-set}
use borrow.Author.Tests.{ltb-true, ltb-false, eq-eqb, ne_eqb}
use Rattle.lists.proofs.Tests.{by_cases}
use Rattle.units.specs.Limits.{clock_limit}
use Rattle.goings.specs.declared.Going.{Going}
use Rattle.goings.specs.Going.{no_going, ran_by}

-- one number more is no more than m above any
added : (xs : List ℕ) (i m q : ℕ) → get_or (set xs i (get_or xs i 0 + m)) q 0 ≤ get_or xs q 0 + m
added [] i m q = omega arith
added (x ∷ xs) zero m zero = omega arith
added (x ∷ xs) zero m (suc q) = omega arith
added (x ∷ xs) (suc i) m zero = omega arith
added (x ∷ xs) (suc i) m (suc q) = added xs i m q

module _ (gs : List Going) (m : ℕ) (hs : List ℕ) where
  -- as many tasks
  pub ran_long : (n : ℕ) → length (ran_by gs m hs n) ≡ length hs
  unfolding ran_by
  ran_long zero = refl
  ran_long (suc n) =
      by_cases (eqb (get_or gs n no_going).task 0)
      (λ e. rw e (ran_long n))
      (λ e. rw e (length-set (ran_by gs m hs n) _ _ ∙ ran_long n))

  -- each in its range
  pub ran_fits : m ≤ clock_limit → ((i : ℕ) → get_or hs i 0 ≤ clock_limit) → (n i : ℕ) → get_or (ran_by gs m hs n) i 0 ≤ (n + 1) * clock_limit
  unfolding ran_by
  ran_fits l h zero i = omega (arith, h i)
  ran_fits l h (suc n) i =
      let xs : List ℕ = ran_by gs m hs n in
      let j : ℕ = (get_or gs n no_going).task in
      by_cases (eqb j 0)
      (λ e. rw e (omega (arith, ran_fits l h n i)))
      (λ e. rw e (omega (arith, added xs (j - 1) m i, ran_fits l h n i)))

  module _ (n : ℕ) {xs : List ℕ} (e : xs ≡ ran_by gs m hs n) where
    -- a core's run has had more
    pub ran_more : {i : ℕ} → i ≡ (get_or gs n no_going).task → 0 < i → {x : ℕ} → x ≡ get_or xs (i - 1) 0 + m → set xs (i - 1) x ≡ ran_by gs m hs (n + 1)
    unfolding ran_by
    ran_more {i} k h q = rw (add-one n, q, ← e, ← k, ne_eqb i 0 (λ z. absurd (omega (arith, z))))

    -- or the core has none
    pub ran_same : {i : ℕ} → i ≡ (get_or gs n no_going).task → i ≤ 0 → xs ≡ ran_by gs m hs (n + 1)
    unfolding ran_by
    ran_same {i} k h = rw (add-one n, ← e, ← k, eq-eqb i 0 (omega arith))

    -- either way
    pub ran_next : {i : ℕ} {ys : List ℕ} → i ≡ (get_or gs n no_going).task → (0 < i → ys ≡ set xs (i - 1) (get_or xs (i - 1) 0 + m))
        → (i ≤ 0 → ys ≡ xs) → ys ≡ ran_by gs m hs (n + 1)
    ran_next {i} k a b =
        by_cases (ltb 0 i)
        (λ t. let h = ltb-true 0 i t in a h ∙ ran_more k h refl)
        (λ t. let h = ltb-false 0 i t in b h ∙ ran_same k h)
