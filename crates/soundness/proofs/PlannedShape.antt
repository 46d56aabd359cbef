-- The plan of a list that is taken has sixty-four lines of sixteen shares.
use Prim.Native.Nat.{ℕ, ◌/◌}
use mathlib.Core.Path.{◌≡◌, sym, ap, ◌∙◌, subst⁻¹}
use mathlib.Core.List.{List, []}
use native.Mathlib.Omega.{arith}
use lib.Dec.{ltb}
use lib.ListN.{length, get_or, length-map}
use borrow.Author.Tests.{ltb-true, ltb-false}
use Rattle.units.specs.Limits.{tasks_limit}
use Rattle.units.specs.Units.{share}
use Rattle.lists.proofs.Tests.{by_cases}
use Rattle.admission.specs.Weight.{padded}
use Rattle.admission.specs.Admission.{plan_refusal}
use Rattle.admission.specs.Words.{common_of, weights_of}
use Rattle.admission.specs.Given.{Taken}
use Rattle.admission.proofs.Exactly.{exactly_taken}
use Rattle.assignment.specs.Passes.{shares_of, rooms}
use Rattle.assignment.proofs.Placed.{placed_length, placed_wide}
use Rattle.planning.specs.declared.Line.{Line}
use Rattle.planning.specs.Plan.{empty_line, plan_for, plan_of}
use Rattle.soundness.proofs.PlannedLines.{long, task_line_lem, empty_line_lem}
use Rattle.soundness.proofs.Keeps.{Fits}
use Rattle.soundness.proofs.Taken.{taken_fits, taken_plan_lem, plan_number}
use Rattle.planning.specs.Shape.{PlanShaped}

-- its plan has sixty-four lines of sixteen shares
plan_shaped : (m : ℕ) (xs : List ℕ) → Taken m xs → PlanShaped (plan_for m (common_of xs) (padded (weights_of xs)) xs)
unfolding plan_for empty_line
plan_shaped m xs t =
    let l = common_of xs in
    let ws = padded (weights_of xs) in
    let rows = shares_of ws (rooms m l) in
    let f : Fits m l xs ws = taken_fits m xs t in
    let n : length rows ≡ tasks_limit = placed_length m l ws ∙ f.weighed in
    record {
      lines = long xs ws rows f.tasks_few f.weighed n;
      shares = λ i h.
          by_cases (ltb i (length xs / 2))
          (λ e.
          ap (λ (ln : Line). length ln.shares) (task_line_lem xs ws rows f.tasks_few f.weighed n i (ltb-true i (length xs / 2) e))
          ∙ length-map (get_or rows i []) share ∙ placed_wide m l ws f.cores_few i (omega (arith, f.weighed)))
          (λ e. ap (λ (ln : Line). length ln.shares) (empty_line_lem xs ws rows f.tasks_few f.weighed n i (ltb-false i (length xs / 2) e) h));
    }

-- so has the plan of an accepted list
pub started_plan : (m : ℕ) (xs : List ℕ) → (plan_of m xs).refusal.no ≡ 0 → PlanShaped (plan_of m xs).plan
started_plan m xs ok =
    let none : (plan_refusal m xs).no ≡ 0 = sym (plan_number m xs) ∙ ok in
    subst⁻¹ PlanShaped (taken_plan_lem m xs none) (plan_shaped m xs ((exactly_taken m xs).0 none))
