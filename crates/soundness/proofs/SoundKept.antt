-- A sound plan keeps what a plan must: every number in its range, and the structure of its shares.
use Prim.Native.Nat.{ℕ, suc, ◌≤◌, ◌<◌}
use mathlib.Core.Path.{◌≡◌, refl, sym, ap, ◌∙◌}
use mathlib.Core.Bool.{Bool, true, not, ◌&&◌, ◌||◌}
use mathlib.Core.List.{List, [], ◌∷◌, map}
use native.Mathlib.Omega.{arith}
use lib.Dec.{ltb, leb, eqb}
use lib.ListN.{length, get_or, length-map, get_or-map, get_or-eq_default}
use lib.Seq.{ext_get_or}
use borrow.Author.Tests.{ltb-true, ltb-false, leb-true, eqb-true, eq-eqb, le-ltb}
use Rattle.units.specs.Limits.{cores_limit, tasks_limit, period_limit}
use Rattle.units.proofs.Units.{nums_long}
use Rattle.lists.specs.Lists.{total, zeros}
use Rattle.lists.specs.Rows.{how_many, column, top}
use Rattle.lists.proofs.Tests.{by_cases, and_left, and_right}
use Rattle.task_shares.specs.Movers.{fixed_on, moves_on, lower}
use Rattle.assignment.specs.Structure.{CoreKept, Structure}
use Rattle.planning.specs.declared.Line.{Line}
use Rattle.planning.specs.declared.Plan.{Plan}
use Rattle.planning.specs.Plan.{empty_line, no_line, row_of, shares_table, plan_weights}
use Rattle.planning.proofs.Agreed.{line_same}
use Rattle.planning.specs.Kept.{PlanKept}
use Rattle.soundness.specs.Rules.{line_empty, core_within, few_movers, one_first, guarded}
use Rattle.soundness.specs.Plan.{plan_sound}
use Rattle.planning.specs.Shape.{PlanShaped}
use Rattle.soundness.proofs.Numbers.{Numbers, numbers}
use Rattle.soundness.proofs.Facts.{ruled}
use Rattle.soundness.proofs.Ranges.{empty_zero}
use Rattle.soundness.proofs.Lined.{lined}
use Rattle.soundness.proofs.PlannedLines.{zero_row}

-- what is known of any line, of a task or empty
record Bounded (ln : Line) : Type 0 where
  shares : total (row_of ln) ≡ ln.weight.0
  cost : ln.cost.0 ≤ period_limit
  period : ln.period.0 ≤ period_limit

-- the line of no task
past_empty : (ln : Line) → length ln.shares ≡ cores_limit → line_empty ln ≡ true → ln ≡ empty_line
unfolding empty_line
past_empty ln l e =
    let z = empty_zero ln e in
    line_same ln empty_line z.cost z.period z.weight (zero_row (row_of ln) z.shares ∙ ap zeros (nums_long ln.shares cores_limit l))

empty_bounded : Bounded empty_line
unfolding empty_line
empty_bounded = record { shares = refl; cost = omega arith; period = omega arith }

-- no row reaches core p
column_none : (p : ℕ) (tab : List (List ℕ)) → ((i : ℕ) → i < length tab → length (get_or tab i []) ≤ p) → column p tab ≡ 0
column_none p [] h = refl
column_none p (r ∷ tab) h =
    omega (arith, get_or-eq_default r 0 {n = p} (h 0 (omega arith)), column_none p tab (λ i l. h (suc i) (omega arith)))

-- two have it as first core of exactly one
first_says : (a b : Bool) → (not a || b) ≡ true → a ≡ true → b ≡ true
first_says a b e h = rw h at e

module _ (pl : Plan) (long : PlanShaped pl) (s : plan_sound pl ≡ true) where
  -- its table of shares
  abbrev tab : List (List ℕ)
  tab = shares_table pl

  -- its numbers
  n : Numbers pl
  n = numbers pl (ruled pl s).numbers

  -- past its tasks the lines are empty
  past : (i : ℕ) → pl.count ≤ i → i < tasks_limit → get_or pl.lines i no_line ≡ empty_line
  past i h m = past_empty (get_or pl.lines i no_line) (long.shares i m) (rw (le-ltb i pl.count h) at ((ruled pl s).lines i m))

  -- every line, of a task or not
  bounded : (i : ℕ) → Bounded (get_or pl.lines i no_line)
  bounded i =
      by_cases (ltb i pl.count)
      (λ e.
      let f = lined pl long.lines s i (ltb-true i pl.count e) in
      record { shares = f.shares; cost = omega (arith, f.cost, f.period); period = f.period })
      (λ e. by_cases (ltb i tasks_limit)
      (λ m. rw (past i (ltb-false i pl.count e) (ltb-true i tasks_limit m)) empty_bounded)
      (λ m. rw (get_or-eq_default pl.lines no_line {n = i} (omega (arith, long.lines, ltb-false i tasks_limit m)))
      (record { shares = refl; cost = omega arith; period = omega arith })))

  -- every row has sixteen shares
  rows_wide : (i : ℕ) → i < length tab → length (get_or tab i []) ≡ cores_limit
  rows_wide i h =
      ap length (get_or-map row_of pl.lines i no_line)
      ∙ nums_long (get_or pl.lines i no_line).shares cores_limit (long.shares i (omega (arith, length-map pl.lines row_of, long.lines)))

  -- every core keeps its rules, and has no share where it is not there
  core_kept : (p : ℕ) → p < cores_limit → CoreKept pl.common p tab × (pl.cores ≤ p → column p tab ≡ 0)
  core_kept p h =
      let a = core_within pl.cores pl.common tab p in
      let b = few_movers tab p in
      let c = one_first tab p in
      let d = guarded tab p in
      let e = (ruled pl s).cores p h in
      let abc = and_left (a && b && c) d e in
      let ab = and_left (a && b) c abc in
      let load = leb (column p tab) pl.common in
      let only = ltb p pl.cores || eqb (column p tab) 0 in
      let w = and_left a b ab in (
        record {
          within = leb-true (column p tab) pl.common (and_left load only w);
          few = leb-true (how_many (moves_on p) tab) 2 (and_right a b ab);
          first = λ t. eqb-true (how_many (lower p) tab) 1
              (first_says (eqb (how_many (moves_on p) tab) 2) (eqb (how_many (lower p) tab) 1) (and_right (a && b) c abc)
              (eq-eqb (how_many (moves_on p) tab) 2 t));
          guarded = leb-true (top (moves_on p) tab) (top (fixed_on p) tab) (and_right (a && b && c) d e);
        },
        λ m. eqb-true (column p tab) 0 (rw (le-ltb p pl.cores m) at (and_right load only w)),
      )

  -- so the structure is kept
  structure : Structure pl.cores pl.common (plan_weights pl) tab
  structure = record {
    sums = ext_get_or 0 (map total tab) (plan_weights pl)
        (length-map tab total ∙ length-map pl.lines row_of ∙ sym (length-map pl.lines (λ (ln : Line). ln.weight.0)))
        (λ i h. get_or-map total tab i [] ∙ ap total (get_or-map row_of pl.lines i no_line) ∙ (bounded i).shares ∙ sym
        (get_or-map (λ (ln : Line). ln.weight.0) pl.lines i no_line));
    cores = λ p h. (core_kept p (omega (arith, n.cores_few))).0;
    beyond = λ p h. by_cases (ltb p cores_limit)
        (λ e. (core_kept p (ltb-true p cores_limit e)).1 h)
        (λ e. column_none p tab (λ i l. omega (arith, rows_wide i l, ltb-false p cores_limit e)));
  }

  -- and all that a plan must keep
  pub sound_kept : PlanKept pl
  sound_kept = record {
    cores_some = n.cores_some;
    cores_few = n.cores_few;
    common_some = n.common_some;
    common_small = n.common_small;
    tasks_few = n.count_few;
    costs = λ i. (bounded i).cost;
    periods = λ i. (bounded i).period;
    past = past;
    structure = structure;
  }
