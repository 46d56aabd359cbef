-- A table empty, over 64 tasks, or ending inside a task, whatever else it holds.
use Prim.Native.Nat.{ℕ}
use mathlib.Core.Path.{◌≡◌, sym, ◌∙◌}
use mathlib.Core.Logic.{◌⊎◌, inl, inr, ⊎_elim}
use mathlib.Core.List.{List}
use native.Mathlib.Nat.{pos_of_ne-zero}
use native.Mathlib.Omega.{arith}
use lib.Dec.{eqb, ltb}
use borrow.Author.Tests.{eqb-true, eqb-false, ltb-true, ltb-false}
use Rattle.units.specs.Limits.{cores_limit}
use Rattle.lists.proofs.Tests.{by_cases}
use Rattle.admission.specs.Admission.{plan_refusal}
use Rattle.admission.specs.Words.{CoresIn, CoresOut, TableOut}
use Rattle.admission.specs.Given.{one, two}
use Rattle.admission.proofs.Gives.{gives_no}

-- a core count is out of range or in it
cores : (m : ℕ) → CoresOut m ⊎ CoresIn m
cores m =
    by_cases (eqb m 0)
    (λ e. inl (inl (eqb-true m 0 e)))
    (λ e. by_cases (ltb cores_limit m)
    (λ h. inl (inr (ltb-true cores_limit m h)))
    (λ h. inr (pos_of_ne-zero (eqb-false m 0 e), ltb-false cores_limit m h)))

-- such a table is refused by 1 where the core count is out of range, else by 2
out : (m : ℕ) (xs : List ℕ) → TableOut xs → (CoresOut m → (plan_refusal m xs).no ≡ 1) × (CoresIn m → (plan_refusal m xs).no ≡ 2)
out m xs o = (λ c. gives_no m xs (one c), λ c. gives_no m xs (two c o))

-- two such tables are refused by the same number
pub out_same : (m : ℕ) (xs ys : List ℕ) → TableOut xs → TableOut ys → (plan_refusal m xs).no ≡ (plan_refusal m ys).no
out_same m xs ys o p =
    ⊎_elim
    (λ c. (out m xs o).0 c ∙ sym ((out m ys p).0 c))
    (λ c. (out m xs o).1 c ∙ sym ((out m ys p).1 c))
    (cores m)

-- and neither is taken
pub out_refused : (m : ℕ) (xs : List ℕ) → TableOut xs → (plan_refusal m xs).no ≡ 0 → ⊥
out_refused m xs o e =
    ⊎_elim
    (λ c. omega (arith, (out m xs o).0 c, e))
    (λ c. omega (arith, (out m xs o).1 c, e))
    (cores m)
