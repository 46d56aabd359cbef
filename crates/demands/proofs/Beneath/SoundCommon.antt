-- L is the common period of a plan's tasks, in document 01's words: the least positive number that each period divides.
use Prim.Native.Nat.{ℕ, ◌≤◌, ◌<◌, ◌∣◌}
use mathlib.Core.Path.{◌≡◌, ap, ◌∙◌}
use mathlib.Core.Logic.{◌↔◌}
use mathlib.Core.Bool.{true}
use mathlib.Core.List.{List, map}
use native.Mathlib.Omega.{arith}
use native.Mathlib.Nat.{pos_of_dvd_of_pos, le_of_dvd, le_antisymm}
use lib.ListN.{length, get_or, take, length-map, get_or-map}
use lib.Seq.{get_or-take, length-take-le}
use borrow.Author.Tests.{eqb-true, eq-eqb}
use Rattle.units.specs.Limits.{tasks_limit}
use Rattle.arith.specs.Period.{common}
use Rattle.arith.proofs.Common.{Each, common_each, common_least}
use Rattle.planning.specs.declared.Line.{Line}
use Rattle.planning.specs.declared.Plan.{Plan}
use Rattle.planning.specs.Plan.{no_line}
use Rattle.planning.specs.Shape.{PlanShaped}
use Rattle.soundness.specs.Rules.{common_is}

-- a number is the common period exactly if it is the least positive number that each period divides
least_exactly : (l : ℕ) (ts : List ℕ) → 0 < l
    → (l ≡ common ts) ↔ (Each (λ t. t ∣ l) ts × ((n : ℕ) → 0 < n → Each (λ t. t ∣ n) ts → l ≤ n))
least_exactly l ts h = (
  λ e. ((λ i b. rw e (common_each ts i b)), λ n k d. rw e (le_of_dvd k (common_least ts n d))),
  λ w.
      let into : common ts ∣ l = common_least ts l w.0 in
      le_antisymm (w.1 (common ts) (pos_of_dvd_of_pos into h) (common_each ts)) (le_of_dvd h into),
)

module _ (pl : Plan) (long : PlanShaped pl) where
  -- task i's line
  abbrev line_of : ℕ → Line
  line_of i = get_or pl.lines i no_line

  -- the periods of its tasks
  abbrev ts : List ℕ
  ts = map (λ (ln : Line). ln.period.0) (take pl.count pl.lines)

  module _ (few : pl.count ≤ tasks_limit) where
    -- as many periods as tasks
    periods_long : length ts ≡ pl.count
    periods_long =
        length-map (take pl.count pl.lines) (λ (ln : Line). ln.period.0)
        ∙ length-take-le pl.count pl.lines (omega (arith, long.lines))

    -- each is its task's
    period_is : (i : ℕ) → i < pl.count → get_or ts i 0 ≡ (line_of i).period.0
    period_is i h =
        get_or-map (λ (ln : Line). ln.period.0) (take pl.count pl.lines) i no_line
        ∙ ap (λ (ln : Line). ln.period.0) (get_or-take pl.count pl.lines i no_line h)

    -- what is so of each period is so of each task's
    each_task : (P : ℕ → Type 0) → Each P ts ↔ ((i : ℕ) → i < pl.count → P (line_of i).period.0)
    each_task P = (
      λ e i h. rw (← (period_is i h)) (e i (omega (arith, periods_long))),
      λ e i h. let k : i < pl.count = omega (arith, periods_long) in rw (period_is i k) (e i k),
    )

    -- L is the common period exactly if it is the least number that each task's period divides
    pub common_exactly : 0 < pl.common → (common_is pl ≡ true)
        ↔ (((i : ℕ) → i < pl.count → (line_of i).period.0 ∣ pl.common)
        × ((n : ℕ) → 0 < n → ((i : ℕ) → i < pl.count → (line_of i).period.0 ∣ n) → pl.common ≤ n))
    common_exactly h = (
      λ e.
          let w = (least_exactly pl.common ts h).0 (eqb-true pl.common (common ts) e) in
          ((each_task (λ t. t ∣ pl.common)).0 w.0, λ n k d. w.1 n k ((each_task (λ t. t ∣ n)).1 d)),
      λ w. eq-eqb pl.common (common ts)
          ((least_exactly pl.common ts h).1 ((each_task (λ t. t ∣ pl.common)).1 w.0, λ n k d. w.1 n k ((each_task (λ t. t ∣ n)).0 d))),
    )
