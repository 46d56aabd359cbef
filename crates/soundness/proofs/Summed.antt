-- The sums of a plan's tasks, from the last to the first.
use Prim.Native.Nat.{ℕ, suc, ◌+◌, ◌*◌, ◌≤◌, ◌<◌}
use mathlib.Core.Path.{◌≡◌, ap, ◌∙◌}
use mathlib.Core.Logic.{⊎_elim}
use mathlib.Core.Bool.{Bool}
use mathlib.Core.List.{List, [], ◌∷◌}
use native.Mathlib.Omega.{arith}
use native.Mathlib.Nat.{mul-le-mul_right}
use native.Mathlib.Numerals.{add-one}
use lib.Dec.{eqb}
use lib.ListN.{length, get_or, drop, replicate, length-map, length-drop, get_or-replicate, drop_of_length-le, get_or-map, get_or-eq_default}
use lib.Seq.{drop-cons, get_or-drop}
use borrow.Author.Tests.{eqb-true, eqb-false}
use Rattle.units.specs.Limits.{cores_limit, tasks_limit, common_limit}
use Rattle.units.specs.Units.{share}
use Rattle.units.specs.declared.share.Share.{Share}
use Rattle.lists.specs.Lists.{zeros, total}
use Rattle.lists.specs.Rows.{how_many, column}
use Rattle.lists.proofs.Tests.{by_cases, bit_cases}
use Rattle.lists.proofs.Lists.{get_or_le_sum, zeros_at}
use Rattle.task_shares.specs.Movers.{moves_on, lower}
use Rattle.planning.specs.declared.Plan.{Plan}
use Rattle.planning.specs.Plan.{no_line, row_of, shares_table}
use Rattle.soundness.specs.declared.sums.Sums.{Sums}
use Rattle.soundness.specs.Inner.{SumsOf, OneMore, AtMostAllTasks}

-- the sums of no task
abbrev no_sums : Sums
no_sums = record {
  loads = replicate cores_limit (share 0);
  fixed = replicate cores_limit (share 0);
  movers = zeros cores_limit;
  firsts = zeros cores_limit;
  heaviest = replicate cores_limit (share 0);
}

sums_none : SumsOf [] no_sums
sums_none p h =
    let z : (get_or (replicate cores_limit (share 0)) p (share 0)).0 ≡ 0 = ap (λ (s : Share). s.0) (get_or-replicate cores_limit p (share 0) (share 0) h) in
    record { load = z; fixed = z; movers = zeros_at cores_limit p; firsts = zeros_at cores_limit p; heaviest = z }

count_le : (f : List ℕ → Bool) (tab : List (List ℕ)) → how_many f tab ≤ length tab
count_le f [] = omega arith
count_le f (r ∷ tab) = ⊎_elim (λ e. omega (arith, e.1, count_le f tab)) (λ e. omega (arith, e.1, count_le f tab)) (bit_cases (f r))

column_le : (p b : ℕ) (tab : List (List ℕ)) → ((i : ℕ) → total (get_or tab i []) ≤ b) → column p tab ≤ length tab * b
column_le p b [] e = omega arith
column_le p b (r ∷ tab) e = omega (arith, column_le p b tab (λ i. e (suc i)), e 0, get_or_le_sum r p)

-- the tasks from i on are summed, and none weighs more than the largest L
pub record Summed (pl : Plan) (s : Sums) (i : ℕ) : Type 0 where
  pub sums : SumsOf (drop i (shares_table pl)) s
  pub small : (j : ℕ) → i ≤ j → total (get_or (shares_table pl) j []) ≤ common_limit

module _ (pl : Plan) (long : length pl.lines ≡ tasks_limit) where
  -- its table of shares
  abbrev tab : List (List ℕ)
  tab = shares_table pl

  tab_long : length tab ≡ tasks_limit
  tab_long = length-map pl.lines row_of ∙ long

  -- at first
  pub start : Summed pl no_sums tasks_limit
  start = record {
    sums = rw (drop_of_length-le tab {i = tasks_limit} (omega (arith, tab_long))) sums_none;
    small = λ j h. rw (get_or-eq_default tab [] {n = j} (omega (arith, tab_long))) (omega arith);
  }

  -- the row of task i, and those after it
  rows_from : (i : ℕ) → i < tasks_limit → drop i tab ≡ row_of (get_or pl.lines i no_line) ∷ drop (i + 1) tab
  rows_from i h = rw (add-one i, ← (get_or-map row_of pl.lines i no_line)) (drop-cons tab i [] (omega (arith, tab_long)))

  -- one task more
  pub more : (s r : Sums) (i : ℕ) → Summed pl s (i + 1) → i < tasks_limit → OneMore (row_of (get_or pl.lines i no_line)) s r
      → total (row_of (get_or pl.lines i no_line)) ≤ common_limit → Summed pl r i
  more s r i k h one small = record {
    sums = rw (rows_from i h) (one (drop (i + 1) tab) k.sums);
    small = λ j l.
        by_cases (eqb j i)
        (λ e. rw (eqb-true j i e, get_or-map row_of pl.lines i no_line) small)
        (λ e. k.small j (omega (arith, eqb-false j i e)));
  }

  -- no sum is too large
  pub at_most_all : (s : Sums) (i : ℕ) → Summed pl s i → AtMostAllTasks s
  at_most_all s i k =
      let rows = drop i tab in
      let few : length rows ≤ tasks_limit = omega (arith, length-drop i tab, tab_long) in
      let small : (j : ℕ) → total (get_or rows j []) ≤ common_limit = λ j. rw (get_or-drop i tab j []) (k.small (i + j) (omega arith)) in
      record {
        loads = λ p h. omega (arith, (k.sums p h).load, column_le p common_limit rows small, mul-le-mul_right common_limit few);
        movers = λ p h. omega (arith, (k.sums p h).movers, count_le (moves_on p) rows, few);
        firsts = λ p h. omega (arith, (k.sums p h).firsts, count_le (lower p) rows, few);
      }
