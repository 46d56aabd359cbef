-- What admission's answer says.
use Prim.Native.Nat.{ℕ}
use mathlib.Core.Path.{◌≡◌, sym}
use mathlib.Core.List.{List}
use lib.Dec.{eqb}
use borrow.Author.Tests.{eqb-true, eq-eqb, ne_eqb}
use Rattle.lists.proofs.Tests.{by_cases}
use Rattle.arith.specs.Period.{periods, common}
use Rattle.admission.specs.Weight.{weights}
use Rattle.admission.specs.Admission.{plan_refusal, refused_with, taken_with, admission_of}

-- the first refusal that applies is answered
pub says_refusal : (m : ℕ) (xs : List ℕ) → (admission_of m xs).refusal.no ≡ (plan_refusal m xs).no
unfolding admission_of taken_with refused_with
says_refusal m xs =
    by_cases (eqb (plan_refusal m xs).no 0)
    (λ e. rw e (sym (eqb-true (plan_refusal m xs).no 0 e)))
    (λ e. rw e)

-- a refusal is that one, with nothing else
pub says_refused_lem : (m : ℕ) (xs : List ℕ) → ((plan_refusal m xs).no ≡ 0 → ⊥) → admission_of m xs ≡ refused_with (plan_refusal m xs)
unfolding admission_of
says_refused_lem m xs n = rw (ne_eqb (plan_refusal m xs).no 0 n)

-- else the common period and the weights are
pub says_taken : (m : ℕ) (xs : List ℕ) → (plan_refusal m xs).no ≡ 0
    → admission_of m xs ≡ taken_with (common (periods xs)) (weights (common (periods xs)) xs)
unfolding admission_of
says_taken m xs e = rw (eq-eqb (plan_refusal m xs).no 0 e)
