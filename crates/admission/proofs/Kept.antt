-- What a table that passes tests 1 to 4 keeps.
use Prim.Native.Nat.{ℕ, zero, suc, ◌+◌, ◌*◌, ◌%◌, ◌≤◌, ◌<◌}
use mathlib.Core.Path.{◌≡◌, refl, sym, ap, ◌∙◌}
use mathlib.Core.Bool.{Bool, true, false, cond, ◌||◌}
use mathlib.Core.List.{List, [], ◌∷◌}
use native.Mathlib.Nat.{pos_of_ne-zero}
use native.Mathlib.Omega.{arith}
use lib.Dec.{ltb, eqb}
use lib.ListN.{length, get_or}
use borrow.Author.Tests.{eqb-true, eqb-false, ltb-false}
use Rattle.units.specs.Limits.{cores_limit, tasks_limit, period_limit}
use Rattle.lists.proofs.Tests.{by_cases, or_false_left, or_false_right}
use Rattle.units.specs.Refusals.{Refusal}
use Rattle.admission.specs.Refusals.{◌or_else◌, cores_test, table_test, task_test, tasks_test, input_test}
use Rattle.units.specs.Refusals.{refusal, taken, cost_no}

-- neither of two tests refuses
pub neither : (a b : Refusal) → (a or_else b).no ≡ 0 → (a.no ≡ 0) × (b.no ≡ 0)
neither a b e =
    by_cases (eqb a.no 0)
    (λ t. (eqb-true a.no 0 t, sym (ap (λ (c : Bool). (cond c b a).no) t) ∙ e))
    (λ t. absurd (eqb-false a.no 0 t (sym (ap (λ (c : Bool). (cond c b a).no) t) ∙ e)))

-- a test that would refuse has failed
pub failed : (t : Bool) (n i : ℕ) (r : Refusal) → (cond t (refusal (suc n) i) r).no ≡ 0 → (t ≡ false) × (r.no ≡ 0)
failed true n i r e = absurd (omega arith)
failed false n i r e = (refl, e)

-- a task within the limits, whose cost does not exceed its period
pub record Fine (c t : ℕ) : Type 0 where
  pub cost : 0 < c
  pub fits : c ≤ t
  pub period : t ≤ period_limit

fine : (i c t : ℕ) → (task_test i c t).no ≡ 0 → Fine c t
fine i c t e =
    let x = eqb c 0 in
    let y = eqb t 0 in
    let z = ltb period_limit t in
    let three = failed (x || y || z) 2 i (cond (ltb t c) (refusal cost_no i) taken) e in
    let four = failed (ltb t c) 3 i taken three.1 in
    record {
      cost = pos_of_ne-zero (eqb-false c 0 (or_false_left x y (or_false_left (x || y) z three.0)));
      fits = ltb-false t c four.0;
      period = ltb-false period_limit t (or_false_right (x || y) z three.0);
    }

-- each task is fine
pub tasks_fine : (i : ℕ) (xs : List ℕ) → (tasks_test i xs).no ≡ 0 → (k : ℕ) → 2 * k + 1 < length xs → Fine (get_or xs (2 * k) 0) (get_or xs (2 * k + 1) 0)
tasks_fine i [] e k h = absurd (omega arith)
tasks_fine i (c ∷ []) e k h = absurd (omega arith)
tasks_fine i (c ∷ t ∷ xs) e zero h = fine i c t (neither (task_test i c t) (tasks_test (suc i) xs) e).0
tasks_fine i (c ∷ t ∷ xs) e (suc k) h =
    let a : 2 * suc k ≡ suc (suc (2 * k)) = omega arith in
    let b : 2 * suc k + 1 ≡ suc (suc (2 * k + 1)) = omega arith in
    rw (b, a) (tasks_fine (suc i) xs (neither (task_test i c t) (tasks_test (suc i) xs) e).1 k (omega arith))

-- the core count and the table within their limits
pub record Kept (m : ℕ) (xs : List ℕ) : Type 0 where
  pub cores_some : 0 < m
  pub cores_few : m ≤ cores_limit
  pub tasks_some : 0 < length xs
  pub tasks_few : length xs ≤ 2 * tasks_limit
  pub whole : length xs % 2 ≡ 0
  pub tasks : (k : ℕ) → 2 * k + 1 < length xs → Fine (get_or xs (2 * k) 0) (get_or xs (2 * k + 1) 0)

pub kept : (m : ℕ) (xs : List ℕ) → (input_test m xs).no ≡ 0 → Kept m xs
unfolding input_test
kept m xs e =
    let n = length xs in
    let one = neither (cores_test m) (table_test xs or_else tasks_test 1 xs) e in
    let two = neither (table_test xs) (tasks_test 1 xs) one.1 in
    let f = (failed (eqb m 0 || ltb cores_limit m) 0 0 taken one.0).0 in
    let x = eqb n 0 in
    let y = ltb (2 * tasks_limit) n in
    let z = eqb (n % 2) 1 in
    let g = (failed (x || y || z) 1 0 taken two.0).0 in
    let odd : n % 2 ≡ 1 → ⊥ = eqb-false (n % 2) 1 (or_false_right (x || y) z g) in
    record {
      cores_some = pos_of_ne-zero (eqb-false m 0 (or_false_left (eqb m 0) (ltb cores_limit m) f));
      cores_few = ltb-false cores_limit m (or_false_right (eqb m 0) (ltb cores_limit m) f);
      tasks_some = pos_of_ne-zero (eqb-false n 0 (or_false_left x y (or_false_left (x || y) z g)));
      tasks_few = ltb-false (2 * tasks_limit) n (or_false_right x y (or_false_left (x || y) z g));
      whole = even n odd;
      tasks = tasks_fine 1 xs two.1;
    }
  where
    even : (n : ℕ) → (n % 2 ≡ 1 → ⊥) → n % 2 ≡ 0
    even n h = by_cases (eqb (n % 2) 0) (λ e. eqb-true (n % 2) 0 e) (λ e. absurd (h (omega (arith, pos_of_ne-zero (eqb-false (n % 2) 0 e)))))
