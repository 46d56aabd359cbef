-- The table that the host hands in as bytes: eight for a task, cost then period, each least byte first.
use Prim.Native.Nat.{ℕ, zero, suc, ◌+◌, ◌*◌, ◌/◌, ◌%◌, ◌<◌}
use mathlib.Core.Path.{◌≡◌, refl, ap, ◌∙◌}
use mathlib.Core.Logic.{◌⊎◌, inl, inr, ⊎_elim, ◌↔◌}
use mathlib.Core.List.{List, [], ◌∷◌}
use native.Mathlib.Omega.{arith}
use lib.Dec.{eqb}
use lib.ListN.{length, get_or}
use borrow.Author.Tests.{eqb-true, eqb-false, eq-eqb}
use Rattle.lists.proofs.Tests.{by_cases}
use Rattle.little_endian.specs.Number.{numbers_of, number, number32_at}
use Rattle.admission.specs.Words.{TableOut, tasks, cost, period}
use Rattle.host.specs.Host.{table_in}
use Rattle.host.proofs.Numbers.{numbers_length}

-- bytes of no whole tasks, in numbers of four bytes
halves : (n k : ℕ) → n % 4 ≡ 0 → k ≡ n / 4 → (n % 8 ≡ 0 → ⊥) → k % 2 ≡ 1
halves n k four e eight = omega arith

-- bytes of whole tasks
wholes : (n k : ℕ) → n % 4 ≡ 0 → k ≡ n / 4 → k % 2 ≡ 1 → n % 8 ≡ 0 → ⊥
wholes n k four e odd eight = let d : k ≡ 2 * (n / 8) = omega arith in omega arith

-- a table empty, over 64 tasks, or ending inside a task, counted in bytes
pub table_out : (bytes : List ℕ) → TableOut (table_in bytes) ↔ ((length bytes ≡ 0) ⊎ (512 < length bytes) ⊎ (length bytes % 8 ≡ 0 → ⊥))
unfolding table_in
table_out bytes =
    by_cases (eqb (length bytes % 4) 0)
    (λ e. let f = eqb-true (length bytes % 4) 0 e in let n = numbers_length bytes in rw e (
      ⊎_elim
          (λ z. inl (omega arith))
          (⊎_elim (λ h. inr (inl (omega arith))) (λ o. inr (inr (wholes (length bytes) (length (numbers_of bytes)) f n o)))),
      ⊎_elim
          (λ z. inl (omega arith))
          (⊎_elim (λ h. inr (inl (omega arith))) (λ o. inr (inr (halves (length bytes) (length (numbers_of bytes)) f n o)))),
    ))
    (λ e. let f = eqb-false (length bytes % 4) 0 e in rw e (λ o. inr (inr (λ h. f (omega arith))), λ o. inl refl))

-- number k is that of its four bytes
number_at : (bytes : List ℕ) (k : ℕ) → 4 * k + 3 < length bytes → get_or (numbers_of bytes) k 0 ≡ number32_at bytes (4 * k)
number_at [] k h = absurd (omega arith)
number_at (a ∷ []) k h = absurd (omega arith)
number_at (a ∷ b ∷ []) k h = absurd (omega arith)
number_at (a ∷ b ∷ c ∷ []) k h = absurd (omega arith)
number_at (a ∷ b ∷ c ∷ d ∷ bytes) zero h = refl
number_at (a ∷ b ∷ c ∷ d ∷ bytes) (suc k) h =
    let e : 4 * suc k ≡ suc (suc (suc (suc (4 * k)))) = omega arith in
    rw (e, on (4 * k) 1, on (4 * k) 2, on (4 * k) 3) (number_at bytes k (omega arith))
  where
    on : (at i : ℕ) → suc (suc (suc (suc at))) + i ≡ suc (suc (suc (suc (at + i))))
    on at i = omega arith

module _ (bytes : List ℕ) (whole : length bytes % 8 ≡ 0) where
  -- bytes of whole tasks are whole numbers
  table_is : table_in bytes ≡ numbers_of bytes
  unfolding table_in
  table_is = rw (eq-eqb (length bytes % 4) 0 (omega arith))

  -- how many tasks
  pub tasks_are : tasks (table_in bytes) ≡ length bytes / 8
  tasks_are = rw (table_is, numbers_length bytes) (omega arith)

  module _ (k : ℕ) (h : k < length bytes / 8) where
    -- a task's cost
    pub cost_is : cost (table_in bytes) k ≡ number (get_or bytes (8 * k) 0) (get_or bytes (8 * k + 1) 0) (get_or bytes (8 * k + 2) 0)
        (get_or bytes (8 * k + 3) 0)
    cost_is = rw table_is (number_at bytes (2 * k) (omega arith) ∙ ap (number32_at bytes) (omega arith))

    -- and its period
    pub period_is : period (table_in bytes) k
        ≡ number (get_or bytes (8 * k + 4) 0) (get_or bytes (8 * k + 5) 0) (get_or bytes (8 * k + 6) 0) (get_or bytes (8 * k + 7) 0)
    period_is =
        let at : 4 * (2 * k + 1) ≡ 8 * k + 4 = omega arith in
        let on : (i : ℕ) → 8 * k + 4 + i ≡ 8 * k + (4 + i) = λ i. omega arith in
        rw table_is (number_at bytes (2 * k + 1) (omega arith) ∙ rw (at, on 1, on 2, on 3) refl)
