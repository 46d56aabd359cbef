-- A plan keeps what a plan must, if it is drawn from weights that fit.
use Prim.Native.Nat.{ℕ, ◌+◌, ◌*◌, ◌/◌, ◌≤◌, ◌<◌}
use mathlib.Core.Path.{◌≡◌, ◌∙◌, subst⁻¹}
use mathlib.Core.List.{List, [], map}
use native.Mathlib.Omega.{arith}
use lib.Dec.{ltb}
use lib.ListN.{length, get_or, get_or-eq_default}
use borrow.Author.Tests.{ltb-true, ltb-false}
use Rattle.units.specs.Limits.{cores_limit, tasks_limit, period_limit, common_limit}
use Rattle.lists.specs.Lists.{total, most}
use Rattle.lists.proofs.Tests.{by_cases}
use Rattle.assignment.specs.Passes.{shares_of, rooms}
use Rattle.assignment.specs.Structure.{Structure}
use Rattle.planning.specs.declared.Line.{Line}
use Rattle.planning.specs.Plan.{line, empty_line, no_line, lines_of, padded_lines, plan_for, row_of, shares_table}
use Rattle.planning.specs.Kept.{PlanKept}
use Rattle.assignment.proofs.Placed.{placed, placed_length, placed_wide}
use Rattle.soundness.proofs.PlannedLines.{long, task_line_lem, empty_line_lem, weights_back, table_back}

-- a table within the limits, its common period l and its sixty-four weights
pub record Fits (m l : ℕ) (xs ws : List ℕ) : Type 0 where
  pub cores_some : 0 < m
  pub cores_few : m ≤ cores_limit
  pub common_some : 0 < l
  pub common_small : l ≤ common_limit
  pub tasks_few : length xs ≤ 2 * tasks_limit
  pub costs : (k : ℕ) → k < length xs / 2 → get_or xs (2 * k) 0 ≤ period_limit
  pub periods : (k : ℕ) → k < length xs / 2 → get_or xs (2 * k + 1) 0 ≤ period_limit
  pub weighed : length ws ≡ tasks_limit
  pub none : (k : ℕ) → length xs / 2 ≤ k → get_or ws k 0 ≡ 0
  pub each : most ws ≤ l
  pub all : total ws ≤ m * l

module _ (m l : ℕ) (xs ws : List ℕ) (f : Fits m l xs ws) where
  abbrev rows : List (List ℕ)
  rows = shares_of ws (rooms m l)

  rows_long : length (shares_of ws (rooms m l)) ≡ tasks_limit
  rows_long = placed_length m l ws ∙ f.weighed

  held : Structure m l ws (shares_of ws (rooms m l))
  held = placed m l ws f.cores_some f.cores_few f.each f.all

  -- each line has its task's numbers, or none
  pub each_line : (P : Line → Type 0) → P empty_line → P no_line →
      ((k : ℕ) → k < length xs / 2 → P (line (get_or xs (2 * k) 0) (get_or xs (2 * k + 1) 0) (get_or ws k 0) (get_or rows k [])))
      → (i : ℕ) → P (get_or (padded_lines (lines_of xs ws rows)) i no_line)
  each_line P e n t i =
      by_cases (ltb i (length xs / 2))
      (λ a. subst⁻¹ P (task_line_lem xs ws rows f.tasks_few f.weighed rows_long i (ltb-true i (length xs / 2) a)) (t i (ltb-true i (length xs / 2) a)))
      (λ a. by_cases (ltb i tasks_limit)
      (λ b. subst⁻¹ P (empty_line_lem xs ws rows f.tasks_few f.weighed rows_long i (ltb-false i (length xs / 2) a) (ltb-true i tasks_limit b)) e)
      (λ b. subst⁻¹ P (get_or-eq_default (padded_lines (lines_of xs ws rows)) no_line {n = i}
      (omega (arith, ltb-false i tasks_limit b, long xs ws rows f.tasks_few f.weighed rows_long))) n))

  pub keeps : PlanKept (plan_for m l ws xs)
  unfolding plan_for empty_line
  keeps =
      let w : map (λ (ln : Line). ln.weight.0) (padded_lines (lines_of xs ws rows)) ≡ ws = weights_back xs ws rows f.tasks_few
      f.weighed rows_long f.none in
      let t : map (λ (ln : Line). row_of ln) (padded_lines (lines_of xs ws rows)) ≡ rows =
      table_back xs ws rows f.tasks_few f.weighed rows_long f.none held.sums
      (λ i h. placed_wide m l ws f.cores_few i (omega (arith, f.weighed))) in
      record {
        cores_some = f.cores_some;
        cores_few = f.cores_few;
        common_some = f.common_some;
        common_small = f.common_small;
        tasks_few = omega (arith, f.tasks_few);
        costs = each_line (λ ln. ln.cost.0 ≤ period_limit) (omega arith) (omega arith) f.costs;
        periods = each_line (λ ln. ln.period.0 ≤ period_limit) (omega arith) (omega arith) f.periods;
        past = empty_line_lem xs ws rows f.tasks_few f.weighed rows_long;
        structure = subst⁻¹ (λ (vs : List ℕ). Structure m l vs (shares_table (plan_for m l ws xs))) w
            (subst⁻¹ (λ (tab : List (List ℕ)). Structure m l ws tab) t held);
      }
