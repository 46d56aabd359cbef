-- Testing the arrivals one after another.
use Prim.Native.Nat.{ℕ, suc, ◌+◌, ◌-◌, ◌≤◌, ◌<◌}
use mathlib.Core.Path.{◌≡◌, refl, sym, ap, ◌∙◌}
use mathlib.Core.List.{List}
use native.Mathlib.Nat.{sub-zero}
use native.Mathlib.Numerals.{add-one}
use native.Mathlib.Omega.{arith}
use borrow.Author.Tests.{ne_eqb}
use lib.ListN.{length, get_or, get_or-eq_default}
use Rattle.units.specs.Limits.{tasks_limit}
use Rattle.units.specs.Refusals.{refusal, taken}
use Rattle.planning.specs.Plan.{no_line}
use Rattle.planning.specs.declared.Line.{Line}
use Rattle.planning.specs.declared.Plan.{Plan}
use Rattle.arrivals.specs.Arrivals.{
  arrival_time,
  arrival_task,
  arrival_length,
  arrival_cost,
  time_before,
  tests_of,
  arrival_tests,
  refusal_from,
  arrivals_refusal,
}

-- k arrivals have passed: the time before is that of the last of them, and those that are left decide
pub record Tried (pl : Plan) (xs : List ℕ) (n k before : ℕ) : Type 0 where
  pub within : k ≤ n
  pub last : before ≡ time_before xs k
  pub same : arrivals_refusal pl xs n ≡ refusal_from pl xs k (n - k)

-- at first none has
pub start : (pl : Plan) (xs : List ℕ) (n : ℕ) → Tried pl xs n 0 0
unfolding arrivals_refusal
start pl xs n = record { within = omega arith; last = refl; same = rw sub-zero refl }

-- the cost of a task's line, by its place
module _ (lines : List Line) {i j cost : ℕ} (e : i ≡ j) where
  pub cost_read : cost ≡ (get_or lines i no_line).cost.0 → cost ≡ (get_or lines j no_line).cost.0
  cost_read f = f ∙ ap (λ (p : ℕ). (get_or lines p no_line).cost.0) e

  -- past the last line it is 0
  pub cost_none : length lines ≡ tasks_limit → tasks_limit ≤ i → cost ≡ 0 → cost ≡ (get_or lines j no_line).cost.0
  cost_none long h f =
      let g : length lines ≤ j = omega arith in
      f ∙ sym (ap (λ (ln : Line). ln.cost.0) (get_or-eq_default lines no_line g))

module _ (pl : Plan) (xs : List ℕ) (n k before : ℕ) (h : Tried pl xs n k before) where
  -- the tests of the numbers that were read are the arrival's
  pub tests_are : {no cost : ℕ} → cost ≡ arrival_cost pl xs k
      → no ≡ tests_of k pl.count (arrival_task xs k) cost (arrival_length xs k) before (arrival_time xs k) → arrival_tests pl xs k ≡ no
  unfolding arrival_tests
  tests_are {no} {cost} e f = sym (f ∙ rw (e, h.last) refl)

  -- one more passes
  pub more : {time : ℕ} → k < n → arrival_tests pl xs k ≡ 0 → time ≡ arrival_time xs k → Tried pl xs n (k + 1) time
  unfolding refusal_from
  more {time} l e t =
      let z : n - k ≡ suc (n - (k + 1)) = omega arith in
      record { within = omega arith; last = t ∙ sym (ap (time_before xs) (add-one k)); same = h.same ∙ rw (z, e) refl }

  -- one does not
  pub refused : {no : ℕ} → k < n → arrival_tests pl xs k ≡ no → (no ≡ 0 → ⊥) → refusal no (k + 1) ≡ arrivals_refusal pl xs n
  unfolding refusal_from
  refused {no} l e f =
      let z : n - k ≡ suc (n - (k + 1)) = omega arith in
      sym (h.same ∙ rw (z, e, ne_eqb no 0 f, ne_eqb no 0 f) refl)

  -- all have
  pub all : n ≤ k → taken ≡ arrivals_refusal pl xs n
  unfolding refusal_from
  all l = let z : n - k ≡ 0 = omega arith in sym (h.same ∙ rw z refl)
