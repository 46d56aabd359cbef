-- What tests 1 to 4 answer where document 01's words apply.
use Prim.Native.Nat.{ℕ, zero, suc, ◌+◌, ◌*◌, ◌%◌, ◌≤◌, ◌<◌}
use mathlib.Core.Path.{◌≡◌, refl, sym, ◌∙◌}
use mathlib.Core.Logic.{◌⊎◌, inl, inr, ⊎_elim}
use mathlib.Core.Bool.{Bool, true, false, ◌||◌}
use mathlib.Core.List.{List}
use native.Mathlib.Omega.{arith}
use native.Mathlib.Numerals.{add-one}
use lib.Dec.{ltb, eqb}
use lib.ListN.{length, drop}
use borrow.Author.Tests.{eq-eqb, ne_eqb, lt-ltb, le-ltb, eqb-true, ltb-true, ltb-false}
use Rattle.units.specs.Limits.{cores_limit, tasks_limit, period_limit}
use Rattle.lists.proofs.Tests.{or_left, or_right, or_cases, or_false, or_false_left, or_false_right}
use Rattle.admission.specs.Refusals.{cores_test, no_table, table_test, task_test, tasks_test}
use Rattle.units.specs.Refusals.{refusal, taken, cores_no, table_no, range_no, cost_no}
use Rattle.admission.proofs.Tasks.{tasks_stop, tasks_go, tasks_end}
use Rattle.units.specs.Refusals.{Refusal}
use Rattle.admission.specs.Words.{CoresIn, CoresOut, TableIn, TableOut, tasks, cost, period, RangeIn, RangeOut, CostOver, Fine, RangesIn, NoneOver}

-- none of three tests holds
all_out : (x y z : Bool) → x ≡ false → y ≡ false → z ≡ false → (x || y || z) ≡ false
all_out x y z e f g = or_false (x || y) z (or_false x y e f) g

-- one of three does
one_in : {P Q R : Type 0} (x y z : Bool) → (P → x ≡ true) → (Q → y ≡ true) → (R → z ≡ true) → P ⊎ Q ⊎ R → (x || y || z) ≡ true
one_in x y z f g h (inl p) = or_left (x || y) z (or_left x y (f p))
one_in x y z f g h (inr (inl q)) = or_left (x || y) z (or_right x y (g q))
one_in x y z f g h (inr (inr r)) = or_right (x || y) z (h r)

-- a core count in range passes
pub cores_in : (m : ℕ) → CoresIn m → cores_test m ≡ taken
cores_in m h = rw (or_false (eqb m 0) (ltb cores_limit m) (ne_eqb m 0 (λ e. omega arith)) (le-ltb cores_limit m h.1))

-- another is refused by 1
pub cores_out : (m : ℕ) → CoresOut m → cores_test m ≡ refusal cores_no 0
cores_out m (inl e) = rw (or_left (eqb m 0) (ltb cores_limit m) (eq-eqb m 0 e))
cores_out m (inr h) = rw (or_right (eqb m 0) (ltb cores_limit m) (lt-ltb cores_limit m h))

-- a table of 1 to 64 whole tasks passes
pub table_in_lem : (xs : List ℕ) → TableIn xs → table_test xs ≡ taken
table_in_lem xs h =
    let n : ℕ = length xs in
    rw (all_out (eqb n 0) (ltb (2 * tasks_limit) n) (eqb (n % 2) 1)
    (ne_eqb n 0 (λ e. omega arith))
    (le-ltb (2 * tasks_limit) n h.1)
    (ne_eqb (n % 2) 1 (λ e. omega arith)))

-- another is refused by 2
pub table_out : (xs : List ℕ) → TableOut xs → table_test xs ≡ refusal table_no 0
table_out xs o =
    let n : ℕ = length xs in
    rw (one_in (eqb n 0) (ltb (2 * tasks_limit) n) (eqb (n % 2) 1) (eq-eqb n 0) (lt-ltb (2 * tasks_limit) n) (eq-eqb (n % 2) 1) o)

-- so many numbers that are no table, in the same words
pub no_table_lem : (xs : List ℕ) → no_table (length xs) ≡ true → TableOut xs
no_table_lem xs e =
    let n : ℕ = length xs in
    ⊎_elim
    (λ f. ⊎_elim (λ g. inl (eqb-true n 0 g)) (λ g. inr (inl (ltb-true (2 * tasks_limit) n g))) (or_cases (eqb n 0) (ltb (2 * tasks_limit) n) f))
    (λ f. inr (inr (eqb-true (n % 2) 1 f)))
    (or_cases (eqb n 0 || ltb (2 * tasks_limit) n) (eqb (n % 2) 1) e)

-- others are few
pub table_few : (n : ℕ) → no_table n ≡ false → n ≤ 2 * tasks_limit
table_few n e =
    ltb-false (2 * tasks_limit) n
    (or_false_right (eqb n 0) (ltb (2 * tasks_limit) n) (or_false_left (eqb n 0 || ltb (2 * tasks_limit) n) (eqb (n % 2) 1) e))

module _ (xs : List ℕ) where
  -- task k in range does not fail test 3
  range_in : (k : ℕ) → RangeIn xs k → (eqb (cost xs k) 0 || eqb (period xs k) 0 || ltb period_limit (period xs k)) ≡ false
  range_in k h =
      all_out (eqb (cost xs k) 0) (eqb (period xs k) 0) (ltb period_limit (period xs k))
      (ne_eqb (cost xs k) 0 (λ e. omega arith))
      (ne_eqb (period xs k) 0 (λ e. omega arith))
      (le-ltb period_limit (period xs k) h.2)

  -- task k passes
  task_in : (i k : ℕ) → Fine xs k → task_test i (cost xs k) (period xs k) ≡ taken
  task_in i k f = rw (range_in k f.0, le-ltb (period xs k) (cost xs k) f.1)

  -- out of range it is refused by 3
  pub task_three : (i k : ℕ) → RangeOut xs k → task_test i (cost xs k) (period xs k) ≡ refusal range_no i
  task_three i k o =
      rw (one_in (eqb (cost xs k) 0) (eqb (period xs k) 0) (ltb period_limit (period xs k))
      (eq-eqb (cost xs k) 0) (eq-eqb (period xs k) 0) (lt-ltb period_limit (period xs k)) o)

  -- in range, with too great a cost, by 4
  pub task_four : (i k : ℕ) → RangeIn xs k → CostOver xs k → task_test i (cost xs k) (period xs k) ≡ refusal cost_no i
  task_four i k r c = rw (range_in k r, lt-ltb (period xs k) (cost xs k) c)

  -- tasks that pass leave it to those after them
  walk : (n : ℕ) → n ≤ tasks xs → ((k : ℕ) → k < n → Fine xs k) → tasks_test 1 xs ≡ tasks_test (n + 1) (drop (2 * n) xs)
  walk zero b h = refl
  walk (suc n) b h =
      walk n (omega arith) (λ k q. h k (omega arith))
      ∙ rw (← (add-one n)) (tasks_go xs n (omega arith) taken (sym (task_in (n + 1) n (h n (omega arith)))) refl)

  -- all do
  pub tasks_in : RangesIn xs → NoneOver xs → tasks_test 1 xs ≡ taken
  tasks_in r c =
      walk (tasks xs) (omega arith) (λ k h. (r k h, c k h)) ∙ tasks_end xs (tasks xs + 1) (tasks xs) (omega arith)

  -- the first that does not decides
  pub tasks_out : (k : ℕ) → k < tasks xs → ((j : ℕ) → j < k → Fine xs j)
      → (f : Refusal) → task_test (suc k) (cost xs k) (period xs k) ≡ f → (f.no ≡ 0 → ⊥) → tasks_test 1 xs ≡ f
  tasks_out k b h f e n = walk k (omega arith) h ∙ tasks_stop xs k (omega arith) f (rw (add-one k) (sym e)) n
