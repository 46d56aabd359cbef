-- The plan that the entry point answers for a list that is taken is the plan drawn from the list's weights.
use Prim.Native.Nat.{ℕ, ◌-◌, ◌<◌}
use mathlib.Core.Path.{◌≡◌, sym, ap, ◌∙◌}
use mathlib.Core.Logic.{◌⊎◌, inl, inr}
use mathlib.Core.Bool.{true}
use mathlib.Core.List.{List, ◌++◌}
use native.Mathlib.Omega.{arith}
use lib.Dec.{eqb}
use lib.ListN.{length, get_or-map}
use borrow.Author.Tests.{eqb-false, lt-ltb}
use Rattle.lists.specs.Lists.{zeros, total, parts}
use Rattle.lists.proofs.Tests.{by_cases}
use Rattle.lists.proofs.Lists.{parts_some}
use Rattle.admission.specs.Weight.{padded}
use Rattle.admission.specs.Admission.{plan_refusal}
use Rattle.admission.specs.Words.{tasks, cost, period, common_of, weights_of, weight_of}
use Rattle.admission.specs.Given.{Taken}
use Rattle.admission.proofs.Exactly.{exactly_taken}
use Rattle.task_shares.specs.Movers.{fixed, moves}
use Rattle.assignment.proofs.Properties.{weight_at}
use Rattle.planning.specs.declared.Line.{Line}
use Rattle.planning.specs.declared.Plan.{Plan}
use Rattle.planning.specs.Plan.{line, no_line, row_of, plan_for}
use Rattle.planning.specs.Kept.{PlanKept}
use Rattle.soundness.proofs.Taken.{plan_number, plan_kept, taken_plan_lem}
use Rattle.soundness.proofs.PlannedShape.{started_plan}
use Rattle.lateness.specs.Words.{line_of}
use Rattle.dispatch.specs.Record.{record_of, fresh_of}
use Rattle.demands.proofs.Beneath.PlanLines.{row_at_place, line_is}

-- a row with a share is fixed or moves
pub stands : (row : List ℕ) → 0 < total row → (fixed row ≡ true) ⊎ (moves row ≡ true)
stands row h =
    by_cases (eqb (parts row) 1)
    (λ e. inl e)
    (λ e. inr (lt-ltb 1 (parts row) (omega (arith, parts_some row h, eqb-false (parts row) 1 e))))

module _ (m : ℕ) (xs : List ℕ) (ok : (fresh_of m xs).refusal.no ≡ 0) where
  none_applies : (plan_refusal m xs).no ≡ 0
  unfolding fresh_of
  none_applies = sym (plan_number m xs) ∙ ok

  -- none of 1 to 6 applies
  pub is_taken : Taken m xs
  is_taken = (exactly_taken m xs).0 none_applies

  -- the plan that is drawn
  pub plan_is : (fresh_of m xs).next.plan ≡ plan_for m (common_of xs) (padded (weights_of xs)) xs
  unfolding fresh_of record_of
  plan_is = taken_plan_lem m xs none_applies

  -- it keeps what a plan must
  pub keeps : PlanKept (fresh_of m xs).next.plan
  unfolding fresh_of record_of
  keeps = plan_kept m xs none_applies

  -- on sixty-four lines
  pub lines_long : length (fresh_of m xs).next.plan.lines ≡ 64
  unfolding fresh_of record_of
  lines_long = (started_plan m xs ok).lines

  -- task k's line
  pub line_of_lem : (k : ℕ) → k < tasks xs
      → line_of (fresh_of m xs).next.plan k ≡ line (cost xs k) (period xs k) (weight_of xs k) (row_at_place m xs k ++ zeros (16 - m))
  line_of_lem k h = ap (λ (pl : Plan). line_of pl k) plan_is ∙ line_is m xs is_taken k h

  -- its shares sum to its weight
  pub row_sum : (k : ℕ) → k < tasks xs → total (row_of (line_of (fresh_of m xs).next.plan k)) ≡ weight_of xs k
  row_sum k h =
      let lns : List Line = (fresh_of m xs).next.plan.lines in
      ap total (sym (get_or-map row_of lns k no_line))
      ∙ sym (weight_at keeps.structure k)
      ∙ get_or-map (λ (ln : Line). ln.weight.0) lns k no_line
      ∙ ap (λ (ln : Line). ln.weight.0) (line_of_lem k h)
