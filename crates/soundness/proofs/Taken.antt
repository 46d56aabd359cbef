-- Every table that is taken is planned whole.
use Prim.Native.Nat.{ℕ}
use mathlib.Core.Path.{◌≡◌, sym, ◌∙◌, subst⁻¹}
use mathlib.Core.List.{List}
use native.Mathlib.Omega.{arith}
use lib.ListN.{get_or-eq_default}
use lib.Dec.{eqb}
use borrow.Author.Tests.{eq-eqb, eqb-true}
use Rattle.lists.proofs.Tests.{by_cases}
use Rattle.admission.specs.Weight.{padded}
use Rattle.admission.specs.Admission.{plan_refusal}
use Rattle.admission.specs.Words.{common_of, weights_of}
use Rattle.admission.specs.Given.{Taken}
use Rattle.admission.proofs.Exactly.{exactly_taken}
use Rattle.admission.proofs.Padded.{padded_at}
use Rattle.admission.proofs.TakenWeights.{weights_length, common_range, padded_kept}
use Rattle.planning.specs.Plan.{plan_for, refused_plan, taken_plan, plan_of}
use Rattle.planning.specs.Kept.{PlanKept}
use Rattle.soundness.proofs.Keeps.{Fits, keeps}

-- the weights of a table that is taken fit
pub taken_fits : (m : ℕ) (xs : List ℕ) → Taken m xs → Fits m (common_of xs) xs (padded (weights_of xs))
taken_fits m xs t =
    let w = padded_kept m xs t in
    record {
      cores_some = t.cores.0;
      cores_few = t.cores.1;
      common_some = (common_range m xs t).0;
      common_small = (common_range m xs t).1;
      tasks_few = t.table.1;
      costs = λ k h. omega (arith, t.costs k h, t.ranges k h);
      periods = λ k h. (t.ranges k h).2;
      weighed = w.0;
      none = λ k h. padded_at (weights_of xs) k ∙ get_or-eq_default (weights_of xs) 0 {n = k} (omega (arith, weights_length (common_of xs) xs));
      each = w.1;
      all = w.2;
    }

-- the refusal that is answered
pub plan_number : (m : ℕ) (xs : List ℕ) → (plan_of m xs).refusal.no ≡ (plan_refusal m xs).no
unfolding plan_of taken_plan refused_plan
plan_number m xs =
    by_cases (eqb (plan_refusal m xs).no 0)
    (λ e. rw e (sym (eqb-true (plan_refusal m xs).no 0 e)))
    (λ e. rw e)

-- the plan that is answered
pub taken_plan_lem : (m : ℕ) (xs : List ℕ) → (plan_refusal m xs).no ≡ 0 → (plan_of m xs).plan ≡ plan_for m (common_of xs) (padded (weights_of xs)) xs
unfolding plan_of taken_plan
taken_plan_lem m xs e = rw (eq-eqb (plan_refusal m xs).no 0 e)

-- it keeps what a plan must
pub plan_kept : (m : ℕ) (xs : List ℕ) → (plan_refusal m xs).no ≡ 0 → PlanKept (plan_of m xs).plan
plan_kept m xs e = subst⁻¹ PlanKept (taken_plan_lem m xs e) (keeps m (common_of xs) xs (padded (weights_of xs)) (taken_fits m xs ((exactly_taken m xs).0 e)))
