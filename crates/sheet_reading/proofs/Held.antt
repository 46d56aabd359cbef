-- The plan of the numbers as 32 bits hold them is that of the exact numbers: what is held as another number is refused as itself is.
use Prim.Native.Nat.{ℕ, suc, ◌%◌, ◌≤◌, ◌<◌}
use mathlib.Core.Path.{◌≡◌, refl, sym, ap, ap₂, ◌∙◌}
use mathlib.Core.Bool.{false, ◌||◌}
use mathlib.Core.List.{List, [], ◌∷◌, map}
use native.Mathlib.Omega.{arith}
use lib.Dec.{ltb, eqb}
use lib.ListN.{length, length-map}
use borrow.Author.Tests.{lt-ltb, ne_eqb, ltb-true, ltb-false, eqb-true}
use Rattle.lists.proofs.Tests.{by_cases, or_false_right}
use Rattle.units.specs.Limits.{period_limit}
use Rattle.admission.specs.Refusals.{◌or_else◌, cores_test, table_test, task_test, tasks_test, input_test}
use Rattle.admission.specs.Admission.{plan_refusal}
use Rattle.admission.proofs.Kept.{neither, tasks_fine, kept}
use Rattle.planning.specs.Plan.{plan_of, refused_plan}
use Rattle.tick_length.specs.Inner.{held}
use Rattle.tick_length.proofs.NoneLost.{held_small, held_large}

-- 0 alone is held as 0
zero_held : (n : ℕ) → eqb (held n) 0 ≡ eqb n 0
zero_held n =
    by_cases (ltb n 4294967296)
    (λ h. ap (λ (k : ℕ). eqb k 0) (held_small n (ltb-true n 4294967296 h)))
    (λ h. let k = ltb-false n 4294967296 h in ap (λ (j : ℕ). eqb j 0) (held_large n k) ∙ sym (ne_eqb n 0 (λ e. omega arith)))

-- what is above a smaller number stays above it
above_held : (b n : ℕ) → b < 4294967295 → ltb b (held n) ≡ ltb b n
above_held b n s =
    by_cases (ltb n 4294967296)
    (λ h. ap (ltb b) (held_small n (ltb-true n 4294967296 h)))
    (λ h. let k = ltb-false n 4294967296 h in ap (ltb b) (held_large n k) ∙ lt-ltb b 4294967295 s ∙ sym (lt-ltb b n (omega arith)))

-- 3 is the same
range_held : (c t : ℕ) → (eqb (held c) 0 || eqb (held t) 0 || ltb period_limit (held t)) ≡ (eqb c 0 || eqb t 0 || ltb period_limit t)
range_held c t = ap₂ ◌||◌ (ap₂ ◌||◌ (zero_held c) (zero_held t)) (above_held period_limit t (omega arith))

-- so is 4, where 3 does not apply
cost_held : (c t : ℕ) → t ≤ period_limit → ltb (held t) (held c) ≡ ltb t c
cost_held c t h = ap (λ (n : ℕ). ltb n (held c)) (held_small t (omega arith)) ∙ above_held t c (omega arith)

-- so is a task's refusal
task_held : (i c t : ℕ) → task_test i (held c) (held t) ≡ task_test i c t
task_held i c t =
    by_cases (eqb c 0 || eqb t 0 || ltb period_limit t)
    (λ e. rw (range_held c t, e) refl)
    (λ e. rw (range_held c t, e, cost_held c t (ltb-false period_limit t (or_false_right (eqb c 0 || eqb t 0) (ltb period_limit t) e))) refl)

-- and all tasks' first
tasks_held : (i : ℕ) (xs : List ℕ) → tasks_test i (map held xs) ≡ tasks_test i xs
tasks_held i [] = refl
tasks_held i (c ∷ []) = refl
tasks_held i (c ∷ t ∷ xs) = ap₂ ◌or_else◌ (task_held i c t) (tasks_held (suc i) xs)

-- every number of whole tasks that none of them refuses is held as itself
whole_held : (i : ℕ) (xs : List ℕ) → length xs % 2 ≡ 0 → (tasks_test i xs).no ≡ 0 → map held xs ≡ xs
whole_held i [] h e = refl
whole_held i (c ∷ []) h e = absurd (omega arith)
whole_held i (c ∷ t ∷ xs) h e =
    let f = tasks_fine i (c ∷ t ∷ xs) e 0 (omega arith) in
    let later = whole_held (suc i) xs (omega arith) (neither (task_test i c t) (tasks_test (suc i) xs) e).1 in
    ap₂ ◌∷◌ (held_small c (omega (arith, f.fits, f.period))) (ap₂ ◌∷◌ (held_small t (omega (arith, f.period))) later)

module _ (m : ℕ) (xs : List ℕ) where
  -- tests 1 to 4 answer the same
  input_held : input_test m (map held xs) ≡ input_test m xs
  unfolding input_test
  input_held = rw (length-map xs held, tasks_held 1 xs) refl

  -- where they take a table, each of its numbers is held as itself
  taken_held : (input_test m xs).no ≡ 0 → map held xs ≡ xs
  unfolding input_test
  taken_held e =
      let one = neither (cores_test m) (table_test xs or_else tasks_test 1 xs) e in
      whole_held 1 xs (kept m xs e).whole (neither (table_test xs) (tasks_test 1 xs) one.1).1

  -- where they refuse, that is planning's refusal
  refused : eqb (input_test m xs).no 0 ≡ false → plan_refusal m xs ≡ input_test m xs
  unfolding plan_refusal
  refused e = rw e refl

  -- and there is no plan
  no_plan : eqb (input_test m xs).no 0 ≡ false → plan_of m xs ≡ refused_plan (input_test m xs)
  unfolding plan_of
  no_plan e = rw (refused e, e) refl

module _ (m : ℕ) (xs : List ℕ) where
  -- planning refuses the numbers as held as it refuses the numbers
  pub refusal_held : plan_refusal m (map held xs) ≡ plan_refusal m xs
  refusal_held =
      by_cases (eqb (input_test m xs).no 0)
      (λ e. ap (plan_refusal m) (taken_held m xs (eqb-true (input_test m xs).no 0 e)))
      (λ e. refused m (map held xs) (rw (input_held m xs) e) ∙ input_held m xs ∙ sym (refused m xs e))

  -- and plans them alike
  pub plan_held : plan_of m (map held xs) ≡ plan_of m xs
  plan_held =
      by_cases (eqb (input_test m xs).no 0)
      (λ e. ap (plan_of m) (taken_held m xs (eqb-true (input_test m xs).no 0 e)))
      (λ e. no_plan m (map held xs) (rw (input_held m xs) e) ∙ ap refused_plan (input_held m xs) ∙ sym (no_plan m xs e))
