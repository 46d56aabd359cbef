-- A listing says its table: of the tables that are taken, only one has it.
use Prim.Native.Nat.{ℕ, ◌+◌, ◌*◌, ◌/◌, ◌%◌, ◌<◌}
use mathlib.Core.Path.{◌≡◌, sym, ap, ◌∙◌, subst⁻¹}
use mathlib.Core.List.{List}
use native.Mathlib.Omega.{arith}
use lib.Dec.{eqb}
use lib.ListN.{length, get_or}
use lib.Seq.{ext_get_or}
use borrow.Author.Tests.{eqb-true, eqb-false}
use Rattle.lists.proofs.Tests.{by_cases}
use Rattle.admission.specs.Admission.{plan_refusal}
use Rattle.admission.specs.Weight.{padded}
use Rattle.admission.specs.Words.{tasks, cost, period, common_of, weights_of}
use Rattle.admission.specs.Given.{Taken}
use Rattle.admission.proofs.Exactly.{exactly_taken}
use Rattle.assignment.specs.Passes.{shares_of, rooms}
use Rattle.assignment.proofs.Placed.{placed_length}
use Rattle.planning.specs.declared.Line.{Line}
use Rattle.planning.specs.declared.Plan.{Plan}
use Rattle.planning.specs.Plan.{no_line, plan_for, plan_of}
use Rattle.planning.specs.Shape.{PlanShaped}
use Rattle.soundness.proofs.Taken.{taken_fits, taken_plan_lem, plan_number}
use Rattle.soundness.proofs.PlannedLines.{task_line_lem}
use Rattle.soundness.proofs.PlannedShape.{started_plan}
use Rattle.listing.specs.Listing.{listing_text}
use Rattle.listing.proofs.Listing.{listing_determined}

-- two tables of whole tasks with the same costs and periods
same_table : (xs ys : List ℕ) → length xs % 2 ≡ 0 → length ys % 2 ≡ 0 → tasks xs ≡ tasks ys
    → ((k : ℕ) → k < tasks xs → (cost xs k ≡ cost ys k) × (period xs k ≡ period ys k)) → xs ≡ ys
same_table xs ys even also count each =
    ext_get_or 0 xs ys (omega arith)
    (λ i h. by_cases (eqb (i % 2) 0)
    (λ e. let f = eqb-true (i % 2) 0 e in
    subst⁻¹ (λ (j : ℕ). get_or xs j 0 ≡ get_or ys j 0) {y = 2 * (i / 2)} (omega arith) (each (i / 2) (omega arith)).0)
    (λ e. let f = eqb-false (i % 2) 0 e in
    subst⁻¹ (λ (j : ℕ). get_or xs j 0 ≡ get_or ys j 0) {y = 2 * (i / 2) + 1} (omega arith) (each (i / 2) (omega arith)).1))

module _ (m : ℕ) (xs : List ℕ) (t : Taken m xs) where
  -- none of planning's refusals applies
  no_refusal : (plan_refusal m xs).no ≡ 0
  no_refusal = (exactly_taken m xs).1 t

  -- the plan's cores and tasks
  plan_cores : (plan_of m xs).plan.cores ≡ m
  unfolding plan_for
  plan_cores = ap (λ (pl : Plan). pl.cores) (taken_plan_lem m xs no_refusal)

  plan_count : (plan_of m xs).plan.count ≡ tasks xs
  unfolding plan_for
  plan_count = ap (λ (pl : Plan). pl.count) (taken_plan_lem m xs no_refusal)

  -- a task's line has its cost and its period
  plan_line : (k : ℕ) → k < tasks xs → ((get_or (plan_of m xs).plan.lines k no_line).cost.0 ≡ cost xs k)
      × ((get_or (plan_of m xs).plan.lines k no_line).period.0 ≡ period xs k)
  unfolding plan_for
  plan_line k h =
      let ws = padded (weights_of xs) in
      let rows = shares_of ws (rooms m (common_of xs)) in
      let f = taken_fits m xs t in
      let at = ap (λ (pl : Plan). get_or pl.lines k no_line) (taken_plan_lem m xs no_refusal)
      ∙ task_line_lem xs ws rows f.tasks_few f.weighed (placed_length m (common_of xs) ws ∙ f.weighed) k h in
      (ap (λ (ln : Line). ln.cost.0) at, ap (λ (ln : Line). ln.period.0) at)

  -- and the plan has its shape
  plan_shaped : PlanShaped (plan_of m xs).plan
  plan_shaped = started_plan m xs (plan_number m xs ∙ no_refusal)

-- so a listing says its core count and its table
pub says_table_lem : (m n : ℕ) (xs ys : List ℕ) → Taken m xs → Taken n ys → listing_text (plan_of m xs).plan ≡ listing_text (plan_of n ys).plan
    → (m ≡ n) × (xs ≡ ys)
says_table_lem m n xs ys t u e =
    let d = listing_determined (plan_of m xs).plan (plan_of n ys).plan (plan_shaped m xs t) (plan_shaped n ys u) e in
    let count : tasks xs ≡ tasks ys = sym (plan_count m xs t) ∙ d.2 ∙ plan_count n ys u in (
      sym (plan_cores m xs t) ∙ d.0 ∙ plan_cores n ys u,
      same_table xs ys t.table.2 u.table.2 count (λ k h.
          let l = d.3 k (omega (arith, h, plan_count m xs t)) in
          let a = plan_line m xs t k h in
          let b = plan_line n ys u k (omega (arith, h, count)) in
          (sym a.0 ∙ ap (λ (ln : Line). ln.cost.0) l ∙ b.0, sym a.1 ∙ ap (λ (ln : Line). ln.period.0) l ∙ b.1)),
    )
