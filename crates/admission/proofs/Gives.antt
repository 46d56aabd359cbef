-- A row that applies gives its refusal.
use Prim.Native.Nat.{ℕ, suc, ◌*◌, ◌<◌}
use mathlib.Core.Path.{◌≡◌, refl, sym, ap, ◌∙◌}
use mathlib.Core.List.{List}
use native.Mathlib.Omega.{arith}
use borrow.Author.Tests.{le-ltb}
use Rattle.lists.specs.Lists.{total}
use Rattle.arith.specs.Period.{periods, period_of}
use Rattle.std.proofs.Common.{Ok}
use Rattle.arith.proofs.Common.{Each}
use Rattle.arith.proofs.Table.{periods_at, periods_length}
use Rattle.arith.proofs.Within.{over_period, common_period_lem}
use Rattle.admission.specs.Refusals.{◌or_else◌, cores_test, table_test, tasks_test, input_test}
use Rattle.units.specs.Refusals.{refusal, taken, cores_no, table_no, range_no, cost_no}
use Rattle.admission.specs.Admission.{plan_refusal}
use Rattle.admission.proofs.First.{decides, leaves}
use Rattle.admission.proofs.Admitting.{input_decides, over, heavy, sum_decides}
use Rattle.units.specs.Refusals.{Refusal}
use Rattle.admission.specs.Words.{CoresIn, CoresOut, TableIn, TableOut, common_of, weights_of, RangesIn, PeriodIn}
use Rattle.admission.specs.Given.{Taken, Tested, Reached, Given, none, one, two, three, four, five, six}
use Rattle.admission.proofs.InWords.{cores_in, cores_out, table_in_lem, table_out, task_three, task_four, tasks_in, tasks_out}

-- each period of a table in range is positive
pub periods_some : (xs : List ℕ) → RangesIn xs → Each (λ t. 0 < t) (periods xs)
periods_some xs r k h = rw (periods_at xs k) (r k (omega (arith, periods_length xs))).1

module _ (m : ℕ) (xs : List ℕ) where
  -- tests 1 and 2 passed leave it to the tasks
  input_tasks : CoresIn m → TableIn xs → (f : Refusal) → tasks_test 1 xs ≡ f → f ≡ input_test m xs
  unfolding input_test
  input_tasks c t f e =
      leaves taken (cores_test m) f (table_test xs or_else tasks_test 1 xs) (sym (cores_in m c)) refl
      (leaves taken (table_test xs) f (tasks_test 1 xs) (sym (table_in_lem xs t)) refl (sym e))

  -- test 1
  input_one : CoresOut m → refusal cores_no 0 ≡ input_test m xs
  unfolding input_test
  input_one o = decides (refusal cores_no 0) (cores_test m) (table_test xs or_else tasks_test 1 xs) (sym (cores_out m o)) (λ z. omega arith)

  -- test 2
  input_two : CoresIn m → TableOut xs → refusal table_no 0 ≡ input_test m xs
  unfolding input_test
  input_two c o =
      leaves taken (cores_test m) (refusal table_no 0) (table_test xs or_else tasks_test 1 xs) (sym (cores_in m c)) refl
      (decides (refusal table_no 0) (table_test xs) (tasks_test 1 xs) (sym (table_out xs o)) (λ z. omega arith))

  -- a task that tests 1 and 2 reach
  input_task : (k : ℕ) → Reached m xs k → (f : Refusal) → tasks_test 1 xs ≡ f → (f.no ≡ 0 → ⊥) → plan_refusal m xs ≡ f
  input_task k r f e n = sym (input_decides m xs f (input_tasks r.cores r.table f e) n)

  -- tests 1 to 4 passed
  passed : Tested m xs → (input_test m xs).no ≡ 0
  passed t = ap (λ (r : Refusal). r.no) (sym (input_tasks t.cores t.table taken (tasks_in xs t.ranges t.costs)))

  -- and 5
  within : Tested m xs → PeriodIn xs → period_of (periods xs) ≡ Ok (common_of xs)
  within t p = common_period_lem (periods xs) (periods_some xs t.ranges) p

  -- a table that is taken passes tests 1 to 4
  pub tested : Taken m xs → Tested m xs
  tested t = record { cores = t.cores; table = t.table; ranges = t.ranges; costs = t.costs }

  -- each row's refusal
  pub gives : {n i : ℕ} → Given m xs n i → plan_refusal m xs ≡ refusal n i
  gives (none t) =
      sum_decides m xs (passed (tested t)) (common_of xs) (within (tested t) t.within)
      ∙ rw (le-ltb (m * common_of xs) (total (weights_of xs)) t.fit)
  gives (one o) = sym (input_decides m xs (refusal cores_no 0) (input_one o) (λ z. omega arith))
  gives (two c o) = sym (input_decides m xs (refusal table_no 0) (input_two c o) (λ z. omega arith))
  gives (three {k} r o) =
      input_task k r (refusal range_no (suc k))
      (tasks_out xs k r.there r.before (refusal range_no (suc k)) (task_three xs (suc k) k o) (λ z. omega arith)) (λ z. omega arith)
  gives (four {k} r i c) =
      input_task k r (refusal cost_no (suc k))
      (tasks_out xs k r.there r.before (refusal cost_no (suc k)) (task_four xs (suc k) k i c) (λ z. omega arith)) (λ z. omega arith)
  gives (five {i} t f) = sym (over m xs (passed t) i (over_period (periods xs) i f))
  gives (six t p h) = sym (heavy m xs (passed t) (common_of xs) (within t p) h)

  -- and its number
  pub gives_no : {n i : ℕ} → Given m xs n i → (plan_refusal m xs).no ≡ n
  gives_no g = ap (λ (r : Refusal). r.no) (gives g)
