-- Tables: what one row has is part of what all have.
use Prim.Native.Nat.{ℕ, zero, suc, ◌+◌, ◌≤◌, ◌<◌}
use mathlib.Core.Path.{◌≡◌, refl, ap}
use mathlib.Core.Logic.{◌⊎◌, inl, inr}
use mathlib.Core.Bool.{Bool, true}
use mathlib.Core.List.{List, [], ◌∷◌}
use native.Mathlib.Omega.{arith}
use lib.ListN.{length, get_or}
use Rattle.lists.specs.Lists.{total, bit, val, seek}
use Rattle.lists.specs.Rows.{fold, how_many, column, column_of, top}
use Rattle.lists.proofs.Tests.{by_cases}

-- its number on core p
pub column_at : (p : ℕ) (tab : List (List ℕ)) (i : ℕ) → get_or (get_or tab i []) p 0 ≤ column p tab
column_at p [] i = omega arith
column_at p (r ∷ tab) zero = omega arith
column_at p (r ∷ tab) (suc i) = omega (arith, column_at p tab i)

module _ (f : List ℕ → Bool) where
  -- and if it passes a test
  pub column_of_at : (p : ℕ) (tab : List (List ℕ)) (i : ℕ) → f (get_or tab i []) ≡ true → get_or (get_or tab i []) p 0 ≤ column_of f p tab
  column_of_at p [] i e = omega arith
  column_of_at p (r ∷ tab) zero e = rw e (omega arith)
  column_of_at p (r ∷ tab) (suc i) e = omega (arith, column_of_at p tab i e)

  -- its sum, if it passes a test
  pub top_at : (tab : List (List ℕ)) (i : ℕ) → f (get_or tab i []) ≡ true → total (get_or tab i []) ≤ top f tab
  top_at [] i e = omega arith
  top_at (r ∷ tab) zero e = rw e (omega arith)
  top_at (r ∷ tab) (suc i) e = omega (arith, top_at tab i e)

  -- the largest sum is part of all
  pub top_sum : (tab : List (List ℕ)) → top f tab ≤ fold ◌+◌ (λ r. val (f r) (total r)) tab
  top_sum [] = omega arith
  top_sum (r ∷ tab) = omega (arith, top_sum tab)

  -- the row that is sought passes the test, or there is none
  pub seek_at : (tab : List (List ℕ)) → (f (get_or tab (seek f tab) []) ≡ true) ⊎ (get_or tab (seek f tab) [] ≡ [])
  seek_at [] = inr refl
  seek_at (r ∷ tab) = by_cases (f r) (λ e. rw e (inl e)) (λ e. rw e (seek_at tab))

  -- a row that passes is counted
  count_at : (tab : List (List ℕ)) (i : ℕ) → i < length tab → f (get_or tab i []) ≡ true → 0 < how_many f tab
  count_at [] i h e = absurd (omega arith)
  count_at (r ∷ tab) zero h e = rw e (omega arith)
  count_at (r ∷ tab) (suc i) h e = omega (arith, count_at tab i (omega arith) e)

  -- the only row that passes is the one that is sought
  pub seek_only : (tab : List (List ℕ)) (i : ℕ) → how_many f tab ≤ 1 → i < length tab → f (get_or tab i []) ≡ true → seek f tab ≡ i
  seek_only [] i c h e = absurd (omega arith)
  seek_only (r ∷ tab) zero c h e = rw e
  seek_only (r ∷ tab) (suc i) c h e =
      by_cases (f r)
      (λ t. absurd (omega (arith, ap bit t, count_at tab i (omega arith) e)))
      (λ t. rw t (ap suc (seek_only tab i (omega arith) (omega arith) e)))
