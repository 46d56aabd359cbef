-- A list by what stands at each place: its length, its entries, one of them stored, and the sum of numbers.
use Prim.Native.Nat.{ℕ, zero, suc, ◌+◌, ◌*◌, ◌≤◌, ◌<◌}
use mathlib.Core.Path.{◌≡◌, refl, sym, ap, ◌∙◌}
use mathlib.Core.List.{List}
use native.Mathlib.Omega.{arith}
use lib.Dec.{eqb}
use lib.ListN.{length, get_or, set, length-set}
use lib.Seq.{get_or-set_same, get_or-set_other, ext_get_or}
use borrow.Author.Tests.{eqb-true, eqb-false}
use Rattle.lists.specs.Lists.{total}
use Rattle.lists.specs.Tabled.{tabled}
use Rattle.lists.proofs.Tests.{by_cases}

module _ {A : Type 0} where
  pub tabled_long : (f : ℕ → A) (n : ℕ) → length (tabled f n) ≡ n
  tabled_long f zero = refl
  tabled_long f (suc n) = ap suc (tabled_long (λ k. f (suc k)) n)

  pub tabled_at : (z : A) (f : ℕ → A) (n i : ℕ) → i < n → get_or (tabled f n) i z ≡ f i
  tabled_at z f zero i h = absurd (omega arith)
  tabled_at z f (suc n) zero h = refl
  tabled_at z f (suc n) (suc i) h = tabled_at z (λ k. f (suc k)) n i (omega arith)

  -- the same entries
  pub tabled_same : (z : A) (f : ℕ → A) (xs : List A) (n : ℕ) → length xs ≡ n → ((i : ℕ) → i < n → f i ≡ get_or xs i z) → tabled f n ≡ xs
  tabled_same z f xs n long same =
      ext_get_or z (tabled f n) xs (tabled_long f n ∙ sym long)
      (λ i l. let h : i < n = omega (arith, l, tabled_long f n) in tabled_at z f n i h ∙ same i h)

  -- one is stored, the others are as they were
  pub tabled_set : (z : A) (f g : ℕ → A) (n i : ℕ) (v : A) → i < n → g i ≡ v → ((j : ℕ) → j < n → (j ≡ i → ⊥) → g j ≡ f j)
      → tabled g n ≡ set (tabled f n) i v
  tabled_set z f g n i v h here other =
      tabled_same z g (set (tabled f n) i v) n (length-set (tabled f n) i v ∙ tabled_long f n)
      (λ j l. by_cases (eqb j i)
      (λ e. let q = eqb-true j i e in ap g q ∙ here ∙ sym (rw q (get_or-set_same (tabled f n) i v z (omega (arith, h, tabled_long f n)))))
      (λ e. let q = eqb-false j i e in other j l q ∙ sym (get_or-set_other (tabled f n) i j v z q ∙ tabled_at z f n j l)))

-- the sum of two numbers a place
pub sum_both : (f g : ℕ → ℕ) (n : ℕ) → total (tabled (λ k. f k + g k) n) ≡ total (tabled f n) + total (tabled g n)
sum_both f g zero = refl
sum_both f g (suc n) = omega (arith, sum_both (λ k. f (suc k)) (λ k. g (suc k)) n)

-- the sum of numbers of at most c
pub sum_small : (c : ℕ) (f : ℕ → ℕ) (n : ℕ) → ((k : ℕ) → f k ≤ c) → total (tabled f n) ≤ c * n
sum_small c f zero h = omega arith
sum_small c f (suc n) h = omega (arith, h 0, sum_small c (λ k. f (suc k)) n (λ k. h (suc k)))
