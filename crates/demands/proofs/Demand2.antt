-- Demand 2 over planning's answer: which lists are taken, and what the plan of a taken list is. Tasks and cores are counted from 0.
use Prim.Native.Nat.{ℕ, ◌+◌, ◌*◌, ◌-◌, ◌≤◌, ◌<◌, ◌∣◌}
use mathlib.Core.Path.{◌≡◌, refl, sym, ap, ◌∙◌}
use mathlib.Core.Logic.{◌↔◌, ◌⊎◌}
use mathlib.Core.Bool.{true}
use mathlib.Core.List.{List, [], ◌++◌}
use native.Mathlib.Omega.{arith}
use lib.Dec.{eqb}
use lib.IntN.{pos, negsuc, ◌+ℤ◌}
use lib.ListN.{length, get_or, get_or-map}
use lib.Signed.{le_z}
use borrow.Author.Tests.{eqb-true}
use Rattle.lists.specs.Lists.{zeros, total}
use Rattle.lists.proofs.Tests.{by_cases}
use Rattle.units.specs.Limits.{the_limits}
use Rattle.units.specs.Refusals.{refusal}
use Rattle.units.proofs.Units.{nums_units}
use Rattle.admission.specs.Admission.{plan_refusal}
use Rattle.admission.specs.Words.{CoresIn, TableIn, RangesIn, NoneOver, PeriodIn, AllFit, tasks, cost, period, common_of, weights_of, weight_of}
use Rattle.admission.specs.Given.{Given, none}
use Rattle.admission.proofs.Exactly.{exactly, exactly_taken}
use Rattle.admission.proofs.FirstThatApplies.{given}
use Rattle.admission.proofs.TakenWeights.{weights_length, common_multiple, common_smallest, common_range, weight_exact, weight_range}
use Rattle.ordering.specs.Order.{place_of, in_order}
use Rattle.task_shares.specs.Movers.{fixed, moves, moves_on, first_core, upper, lower}
use Rattle.assignment.specs.Load.{by_load}
use Rattle.assignment.proofs.Properties.{half, two_thirds}
use Rattle.planning.specs.declared.Line.{Line}
use Rattle.planning.specs.declared.Plan.{Plan}
use Rattle.planning.specs.Plan.{line, empty_line, no_line, row_of, plan_for, plan_of, refused_plan, taken_plan}
use Rattle.planning.specs.Kept.{PlanKept}
use Rattle.lateness.specs.Lateness.{share_on}
use Rattle.lateness.specs.Words.{line_of, bound_of, two_past, MoverBound, FixedBound}
use Rattle.lateness.proofs.Range.{late_range}
use Rattle.soundness.proofs.Taken.{plan_number}
use Rattle.dispatch.specs.Record.{fresh_of}
use Rattle.demands.proofs.Beneath.OrderKept.{order_whole, weight_at_place, task_at_place}
use Rattle.demands.proofs.Beneath.PlanLines.{row_at_place}
use Rattle.demands.proofs.Beneath.TakenPlan.{stands, is_taken, plan_is, keeps, lines_long, line_of_lem, row_sum}
use Rattle.demands.proofs.Beneath.Bounds.{past_whole, mover_bound, fixed_bound}

-- the limits are those of document 01
pub limits_are : the_limits ≡ record { cores = 16; tasks = 64; period = 1000000; common = 1000000; clock = 1000000000000; runs = 8 }
limits_are = refl

-- planning answers the first refusal that applies
pub answers_first : (m : ℕ) (xs : List ℕ) → (fresh_of m xs).refusal ≡ plan_refusal m xs
unfolding fresh_of plan_of refused_plan taken_plan
answers_first m xs =
    by_cases (eqb (plan_refusal m xs).no 0)
    (λ e. rw e (sym ((given m xs 0 0).1 (none ((exactly_taken m xs).0 (eqb-true (plan_refusal m xs).no 0 e))))))
    (λ e. rw e)

-- each number is given exactly in its case of document 01's table, with the task that it names
pub given_exactly : (m : ℕ) (xs : List ℕ) (n i : ℕ) → ((fresh_of m xs).refusal ≡ refusal n i) ↔ Given m xs n i
given_exactly m xs n i = (λ e. (given m xs n i).0 (sym (answers_first m xs) ∙ e), λ g. answers_first m xs ∙ (given m xs n i).1 g)

-- a list within the limits is taken exactly when no task asks for more than one core and all together for no more than there are
pub taken_exactly : (m : ℕ) (xs : List ℕ) → CoresIn m → TableIn xs → RangesIn xs → PeriodIn xs
    → ((fresh_of m xs).refusal.no ≡ 0) ↔ (NoneOver xs × AllFit m xs)
unfolding fresh_of
taken_exactly m xs a b c d = (
  λ e. (exactly m xs a b c d).0 (sym (plan_number m xs) ∙ e),
  λ f. plan_number m xs ∙ (exactly m xs a b c d).1 f,
)

-- L is the least common multiple of the periods, whatever the list
pub common_is_least : (xs : List ℕ)
    → ((k : ℕ) → k < tasks xs → period xs k ∣ common_of xs)
    × ((n : ℕ) → 0 < n → ((k : ℕ) → k < tasks xs → period xs k ∣ n) → common_of xs ≤ n)
common_is_least xs = (common_multiple xs, common_smallest xs)

-- each weight is C × L / T exactly, whatever the list
pub weights_are : (xs : List ℕ) → (length (weights_of xs) ≡ tasks xs)
    × ((k : ℕ) → k < tasks xs → weight_of xs k * period xs k ≡ cost xs k * common_of xs)
weights_are xs = (weights_length (common_of xs) xs, weight_exact xs)

-- a list that is taken
module _ (m : ℕ) (xs : List ℕ) (ok : (fresh_of m xs).refusal.no ≡ 0) where
  -- its plan
  abbrev pub plan : Plan
  plan = (fresh_of m xs).next.plan

  -- L and the weights are in their ranges
  pub common_in_range : (0 < common_of xs) × (common_of xs ≤ 1000000)
  common_in_range = common_range m xs (is_taken m xs ok)

  pub weights_in_range : (k : ℕ) → k < tasks xs → (0 < weight_of xs k) × (weight_of xs k ≤ common_of xs)
  weights_in_range = weight_range m xs (is_taken m xs ok)

  -- the plan has the cores, the common period and the tasks, on sixty-four lines
  pub plan_numbers : (plan.cores ≡ m) × (plan.common ≡ common_of xs) × (plan.count ≡ tasks xs) × (length plan.lines ≡ 64)
  unfolding plan_for
  plan_numbers =
      let e = plan_is m xs ok in
      (ap (λ (pl : Plan). pl.cores) e, ap (λ (pl : Plan). pl.common) e, ap (λ (pl : Plan). pl.count) e, lines_long m xs ok)

  -- each task's line has its cost, its period and its weight
  pub line_numbers : (k : ℕ) → k < tasks xs
      → ((line_of plan k).cost.0 ≡ cost xs k) × ((line_of plan k).period.0 ≡ period xs k) × ((line_of plan k).weight.0 ≡ weight_of xs k)
  line_numbers k h =
      let e = line_of_lem m xs ok k h in
      (ap (λ (ln : Line). ln.cost.0) e, ap (λ (ln : Line). ln.period.0) e, ap (λ (ln : Line). ln.weight.0) e)

  -- the lines past the tasks are empty
  pub empty_lines : (k : ℕ) → tasks xs ≤ k → k < 64 → line_of plan k ≡ line 0 0 0 (zeros 16)
  unfolding empty_line
  empty_lines k h l = (keeps m xs ok).past k (omega (arith, plan_numbers.2)) l

  -- the order by falling weight, equal weights by rising task number: a task's place is how many go before it, each place is a task's,
  -- and of the weights in order its own stands there
  pub in_order_lem : (length (in_order (weights_of xs)) ≡ tasks xs)
      × ((k : ℕ) → k < tasks xs
      → (place_of (weights_of xs) k < tasks xs) × (get_or (in_order (weights_of xs)) (place_of (weights_of xs) k) 0 ≡ weight_of xs k))
      × ((p : ℕ) → p < tasks xs → (k : ℕ) × (k < tasks xs) × (place_of (weights_of xs) k ≡ p))
  in_order_lem =
      let ws = weights_of xs in
      let n = weights_length (common_of xs) xs in
      let some : (k : ℕ) → k < tasks xs → 0 < weight_of xs k = λ k h. (weights_in_range k h).0 in
      (order_whole ws (tasks xs) n some, weight_at_place ws (tasks xs) n some, task_at_place ws (tasks xs) n some)

  -- each task's shares are those that the two passes over the m empty cores give at its place; no other core has any
  pub shares_are : (k : ℕ) → k < tasks xs
      → row_of (line_of plan k) ≡ get_or (by_load (common_of xs) (in_order (weights_of xs)) (zeros m)) (place_of (weights_of xs) k) [] ++ zeros (16 - m)
  shares_are k h = ap row_of (line_of_lem m xs ok k h) ∙ nums_units (row_at_place m xs k ++ zeros (16 - m))

  -- the list is placed whole, and its plan keeps what a plan must
  pub placed_whole : PlanKept plan
  placed_whole = keeps m xs ok

  -- the shares of each task sum to its weight
  pub shares_sum : (k : ℕ) → k < tasks xs → total (row_of (line_of plan k)) ≡ weight_of xs k
  shares_sum = row_sum m xs ok

  -- so each is fixed or moves
  pub fixed_or_moves : (k : ℕ) → k < tasks xs → (fixed (row_of (line_of plan k)) ≡ true) ⊎ (moves (row_of (line_of plan k)) ≡ true)
  fixed_or_moves k h = stands (row_of (line_of plan k)) (omega (arith, shares_sum k h, weights_in_range k h))

  -- so a mover's share is at most L/2
  pub share_at_most_half : (p i : ℕ) → moves_on p (row_of (line_of plan i)) ≡ true → 2 * share_on p (line_of plan i) ≤ plan.common
  share_at_most_half p i e =
      let r = get_or-map row_of plan.lines i no_line in
      rw r at (half placed_whole.structure p i (rw r e))

  -- and two sum to at most 2L/3
  pub shares_at_most_two_thirds : (p i k : ℕ) → upper p (row_of (line_of plan i)) ≡ true → lower p (row_of (line_of plan k)) ≡ true
      → 3 * (share_on p (line_of plan i) + share_on p (line_of plan k)) ≤ 2 * plan.common
  shares_at_most_two_thirds p i k e f =
      let r = get_or-map row_of plan.lines i no_line in
      let s = get_or-map row_of plan.lines k no_line in
      rw (r, s) at (two_thirds placed_whole.structure p i k (rw r e) (rw s f))

  -- each mover's bound is document 01's formula over the upper mover's own bound, or C − T
  pub mover_bounds : (i : ℕ) → moves (row_of (line_of plan i)) ≡ true → MoverBound plan i (first_core (row_of (line_of plan i)))
  mover_bounds = mover_bound plan placed_whole

  -- each fixed task's is that over the movers of its core, or 0
  pub fixed_bounds : (i : ℕ) → fixed (row_of (line_of plan i)) ≡ true → FixedBound plan i (first_core (row_of (line_of plan i)))
  fixed_bounds = fixed_bound plan placed_whole (lines_long m xs ok)

  -- where D + 2T of a mover is not below 0
  pub two_past_whole : (i : ℕ) → moves (row_of (line_of plan i)) ≡ true → pos (two_past plan i) ≡ bound_of plan i +ℤ pos (2 * (line_of plan i).period.0)
  two_past_whole = past_whole plan

  -- every bound lies from -1,000,000 to 1,000,000,000
  pub bounds_in_range : (i : ℕ) → (le_z (negsuc 999999) (bound_of plan i) ≡ true) × (le_z (bound_of plan i) (pos 1000000000) ≡ true)
  bounds_in_range = late_range plan placed_whole
