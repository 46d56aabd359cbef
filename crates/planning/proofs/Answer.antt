-- The answer of planning, from admission's.
use Prim.Native.Nat.{ℕ, ◌*◌, ◌≤◌}
use mathlib.Core.Path.{◌≡◌, sym, ap, ap₂, ◌∙◌}
use mathlib.Core.List.{List}
use lib.ListN.{length}
use borrow.Author.Tests.{eq-eqb, ne_eqb}
use Rattle.units.specs.Limits.{cores_limit, tasks_limit}
use Rattle.units.specs.Units.{nums}
use Rattle.units.proofs.Units.{nums_units}
use Rattle.arith.specs.Period.{periods, common}
use Rattle.admission.specs.Weight.{weights, padded}
use Rattle.units.specs.Refusals.{taken}
use Rattle.admission.specs.Admission.{plan_refusal, refused_with, taken_with, admission_of}
use Rattle.admission.specs.Admission.{Admission}
use Rattle.admission.proofs.Admitting.{passed}
use Rattle.admission.proofs.Answers.{says_refusal, says_refused_lem, says_taken}
use Rattle.admission.proofs.Kept.{Kept, kept}
use Rattle.planning.specs.Plan.{plan_for, refused_plan, taken_plan, plan_of}

module _ (m : ℕ) (xs : List ℕ) (a : Admission) (e : a ≡ admission_of m xs) where
  number : a.refusal.no ≡ (plan_refusal m xs).no
  number = ap (λ (x : Admission). x.refusal.no) e ∙ says_refusal m xs

  -- refused
  pub refused : (a.refusal.no ≡ 0 → ⊥) → refused_plan a.refusal ≡ plan_of m xs
  unfolding plan_of refused_with
  refused n =
      let z : (plan_refusal m xs).no ≡ 0 → ⊥ = λ q. n (number ∙ q) in
      rw (ne_eqb (plan_refusal m xs).no 0 z) (ap refused_plan (ap (λ (x : Admission). x.refusal) (e ∙ says_refused_lem m xs z)))

  module _ (t : a.refusal.no ≡ 0) where
    none : (plan_refusal m xs).no ≡ 0
    none = sym number ∙ t

    answer : a ≡ taken_with (common (periods xs)) (weights (common (periods xs)) xs)
    answer = e ∙ says_taken m xs none

    -- taken, with no refusal
    pub taken_none : a.refusal ≡ taken
    unfolding taken_with
    taken_none = ap (λ (x : Admission). x.refusal) answer

    -- with the plan
    pub taken_plan_lem : taken_plan (plan_for m a.common (nums a.weights) xs) ≡ plan_of m xs
    unfolding plan_of taken_with
    taken_plan_lem =
        let l : a.common ≡ common (periods xs) = ap (λ (x : Admission). x.common) answer in
        let w : nums a.weights ≡ padded (weights (common (periods xs)) xs) =
        ap (λ (x : Admission). nums x.weights) answer ∙ nums_units (padded (weights (common (periods xs)) xs)) in
        rw (eq-eqb (plan_refusal m xs).no 0 none) (ap taken_plan (ap₂ (λ (n : ℕ) (ws : List ℕ). plan_for m n ws xs) l w))

    -- of few cores and few tasks
    pub taken_few : (m ≤ cores_limit) × (length xs ≤ 2 * tasks_limit)
    taken_few = let k : Kept m xs = kept m xs (passed m xs none).0 in (k.cores_few, k.tasks_few)

-- a refusal that planning answers is the first that applies
pub refused_is : (m : ℕ) (xs : List ℕ) → ((plan_refusal m xs).no ≡ 0 → ⊥) → (plan_of m xs).refusal ≡ plan_refusal m xs
unfolding plan_of refused_plan
refused_is m xs n = rw (ne_eqb (plan_refusal m xs).no 0 n)
