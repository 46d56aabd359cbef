-- In every case one of the rows applies.
use Prim.Native.Nat.{ℕ, zero, suc, ◌*◌, ◌%◌, ◌≤◌, ◌<◌}
use mathlib.Core.Path.{◌≡◌, refl}
use mathlib.Core.Logic.{◌⊎◌, inl, inr, ⊎_elim}
use mathlib.Core.List.{List}
use native.Mathlib.Nat.{pos_of_ne-zero}
use native.Mathlib.Omega.{arith}
use lib.Dec.{ltb, eqb}
use lib.ListN.{length}
use borrow.Author.Tests.{eqb-true, eqb-false, ltb-true, ltb-false}
use Rattle.units.specs.Limits.{cores_limit, tasks_limit, period_limit}
use Rattle.lists.specs.Lists.{total}
use Rattle.lists.proofs.Tests.{by_cases}
use Rattle.arith.specs.Period.{periods, period_of}
use Rattle.std.proofs.Common.{Result, Ok, Err}
use Rattle.arith.proofs.Within.{period_common, period_over}
use Rattle.admission.specs.Words.{CoresIn, CoresOut, TableIn, TableOut, tasks, cost, period, common_of, weights_of, RangeIn, RangeOut, CostOver, Fine}
use Rattle.admission.specs.Given.{Tested, Reached, Given, none, one, two, three, four, five, six}

-- a number is 0 or not
zero_or : (n : ℕ) → (n ≡ 0) ⊎ (0 < n)
zero_or n = by_cases (eqb n 0) (λ e. inl (eqb-true n 0 e)) (λ e. inr (pos_of_ne-zero (eqb-false n 0 e)))

-- it is above a limit or not
above_or : (b n : ℕ) → (b < n) ⊎ (n ≤ b)
above_or b n = by_cases (ltb b n) (λ e. inl (ltb-true b n e)) (λ e. inr (ltb-false b n e))

-- the core count is out of range or in it
cores : (m : ℕ) → CoresOut m ⊎ CoresIn m
cores m = ⊎_elim (λ e. inl (inl e)) (λ p. ⊎_elim (λ h. inl (inr h)) (λ h. inr (p, h)) (above_or cores_limit m)) (zero_or m)

-- so is the table
table : (xs : List ℕ) → TableOut xs ⊎ TableIn xs
table xs =
    let n : ℕ = length xs in
    ⊎_elim
    (λ e. inl (inl e))
    (λ p. ⊎_elim
    (λ h. inl (inr (inl h)))
    (λ h. ⊎_elim (λ e. inr (p, h, e)) (λ o. inl (inr (inr (omega arith)))) (zero_or (n % 2)))
    (above_or (2 * tasks_limit) n))
    (zero_or n)

-- and task k
range : (xs : List ℕ) (k : ℕ) → RangeOut xs k ⊎ RangeIn xs k
range xs k =
    ⊎_elim
    (λ e. inl (inl e))
    (λ p. ⊎_elim
    (λ e. inl (inr (inl e)))
    (λ q. ⊎_elim (λ h. inl (inr (inr h))) (λ h. inr (p, q, h)) (above_or period_limit (period xs k)))
    (zero_or (period xs k)))
    (zero_or (cost xs k))

-- task k is faulty, by 3 or by 4
abbrev Faulty : List ℕ → ℕ → Type 0
Faulty xs k = RangeOut xs k ⊎ (RangeIn xs k × CostOver xs k)

-- the first n tasks are fine
abbrev AllFine : List ℕ → ℕ → Type 0
AllFine xs n = (k : ℕ) → k < n → Fine xs k

-- a task is faulty or not
fault : (xs : List ℕ) (k : ℕ) → Faulty xs k ⊎ Fine xs k
fault xs k =
    ⊎_elim (λ o. inl (inl o)) (λ r. ⊎_elim (λ c. inl (inr (r, c))) (λ c. inr (r, c)) (above_or (period xs k) (cost xs k))) (range xs k)

-- one more
fine_suc : (xs : List ℕ) (n : ℕ) → AllFine xs n → Fine xs n → AllFine xs (suc n)
fine_suc xs n f p k h = ⊎_elim (λ b. f k b) (λ b. let e : k ≡ n = omega arith in rw e p) (above_or k n)

-- some task of the first n is the first that is faulty, or none is
first_fault : (xs : List ℕ) (n : ℕ) → ((k : ℕ) × (k < n) × AllFine xs k × Faulty xs k) ⊎ AllFine xs n
first_fault xs zero = inr (λ k h. absurd (omega arith))
first_fault xs (suc n) =
    ⊎_elim
    (λ f. inl (f.0, omega (arith, f.1), f.2, f.3))
    (λ f. ⊎_elim (λ b. inl (n, omega arith, f, b)) (λ p. inr (fine_suc xs n f p)) (fault xs n))
    (first_fault xs n)

-- some row applies
abbrev Some : ℕ → List ℕ → Type 0
Some m xs = (n : ℕ) × (i : ℕ) × Given m xs n i

module _ (m : ℕ) (xs : List ℕ) where
  -- of a faulty task
  of_fault : (k : ℕ) → Reached m xs k → Faulty xs k → Some m xs
  of_fault k r (inl o) = (3, suc k, three r o)
  of_fault k r (inr p) = (4, suc k, four r p.0 p.1)

  -- of the common period and the sum
  of_tested : Tested m xs → Some m xs
  of_tested t = go (period_of (periods xs)) refl
    where
      go : (p : Result ℕ ℕ) → period_of (periods xs) ≡ p → Some m xs
      go (Err k) e = (5, k, five t (period_over (periods xs) k e))
      go (Ok l) e =
          let q = period_common (periods xs) l e in
          ⊎_elim (λ h. (6, 0, six t (omega arith) h))
          (λ h. (0, 0, none (record { cores = t.cores; table = t.table; ranges = t.ranges; costs = t.costs; within = omega arith; fit = h })))
          (above_or (m * common_of xs) (total (weights_of xs)))

  -- tested in order
  pub applies : Some m xs
  applies =
      ⊎_elim
      (λ o. (1, 0, one o))
      (λ c. ⊎_elim
      (λ o. (2, 0, two c o))
      (λ t. ⊎_elim
      (λ f. of_fault f.0 (record { cores = c; table = t; there = f.1; before = f.2 }) f.3)
      (λ f. of_tested (record { cores = c; table = t; ranges = λ k h. (f k h).0; costs = λ k h. (f k h).1 }))
      (first_fault xs (tasks xs)))
      (table xs))
      (cores m)
