-- A table is taken exactly if no task asks for more than one core and all together for no more than there are.
use Prim.Native.Nat.{ℕ}
use mathlib.Core.Path.{◌≡◌, sym}
use mathlib.Core.Logic.{◌↔◌}
use mathlib.Core.List.{List}
use lib.Dec.{eqb}
use borrow.Author.Tests.{eqb-true}
use Rattle.lists.proofs.Tests.{by_cases}
use Rattle.admission.specs.Admission.{plan_refusal, refused_with, taken_with, admission_of}
use Rattle.admission.proofs.Answers.{says_refused_lem, says_taken}
use Rattle.admission.specs.Words.{CoresIn, TableIn, common_of, weights_of, RangesIn, NoneOver, PeriodIn, AllFit}
use Rattle.admission.specs.Given.{Taken, Given, none}
use Rattle.admission.proofs.Gives.{gives, gives_no}
use Rattle.admission.proofs.FirstThatApplies.{says}

module _ (m : ℕ) (xs : List ℕ) where
  -- no refusal is given exactly if none of 1 to 6 applies
  pub exactly_taken : ((plan_refusal m xs).no ≡ 0) ↔ Taken m xs
  exactly_taken = (λ e. of (rw e at (says m xs)), λ t. gives_no m xs (none t))
    where
      of : {i : ℕ} → Given m xs 0 i → Taken m xs
      of (none t) = t

  -- with numbers in range and a common period within its limit: exactly if no task exceeds one core and all together fit
  pub exactly : CoresIn m → TableIn xs → RangesIn xs → PeriodIn xs → ((plan_refusal m xs).no ≡ 0) ↔ (NoneOver xs × AllFit m xs)
  exactly c t r p = (
    λ e. let k = exactly_taken.0 e in (k.costs, k.fit),
    λ h. exactly_taken.1 (record { cores = c; table = t; ranges = r; costs = h.0; within = p; fit = h.1 }),
  )

  -- the first refusal that applies is answered
  pub answers : (admission_of m xs).refusal ≡ plan_refusal m xs
  unfolding admission_of taken_with refused_with
  answers =
      by_cases (eqb (plan_refusal m xs).no 0)
      (λ e. rw e (sym (gives m xs (none (exactly_taken.0 (eqb-true (plan_refusal m xs).no 0 e))))))
      (λ e. rw e)

  -- of a table that is taken the common period and the weights
  pub answers_taken : Taken m xs → admission_of m xs ≡ taken_with (common_of xs) (weights_of xs)
  answers_taken t = says_taken m xs (exactly_taken.1 t)

  -- of any other the refusal, with every other number 0
  pub answers_refused : (Taken m xs → ⊥) → admission_of m xs ≡ refused_with (plan_refusal m xs)
  answers_refused n = says_refused_lem m xs (λ e. n (exactly_taken.0 e))
