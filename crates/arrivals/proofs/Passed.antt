-- Arrivals of which none is refused: each passes its tests, and they are fine.
use Prim.Native.Nat.{ℕ, zero, suc, ◌+◌, ◌≤◌, ◌<◌}
use mathlib.Core.Path.{◌≡◌, refl, ap}
use mathlib.Core.Bool.{Bool, true, false, cond, ◌||◌}
use mathlib.Core.List.{List}
use native.Mathlib.Decide.{dec_lt}
use native.Mathlib.Numerals.{add-one}
use native.Mathlib.Omega.{arith}
use lib.Dec.{ltb, leb, eqb}
use borrow.Author.Tests.{le-ltb, lt-leb, ne_eqb, ltb-false, leb-false, eqb-true, eqb-false}
use Rattle.lists.proofs.Tests.{by_cases, or_false, or_false_left, or_false_right}
use Rattle.units.specs.Refusals.{taken}
use Rattle.planning.specs.declared.Plan.{Plan}
use Rattle.call_tests.specs.Tests.{outside}
use Rattle.arrivals.specs.Arrivals.{
  arrivals_limit,
  arrival_time,
  arrival_task,
  arrival_length,
  arrival_cost,
  time_before,
  tests_of,
  arrival_tests,
  refusal_from,
  arrivals_refusal,
}
use Rattle.arrivals.specs.Fine.{Fine}

-- a test that gives no number does not apply
gate : (b : Bool) (n later : ℕ) → (n ≡ 0 → ⊥) → cond b n later ≡ 0 → (b ≡ false) × (later ≡ 0)
gate true n later f e = absurd (f e)
gate false n later f e = (refl, e)

-- a number that is not outside stands from 1 to n
inside : (n i : ℕ) → outside n i ≡ false → (1 ≤ i) × (i ≤ n)
inside n i e =
    let a = eqb-false i 0 (or_false_left (eqb i 0) (ltb n i) e) in
    (omega (arith, a), ltb-false n i (or_false_right (eqb i 0) (ltb n i) e))

-- what an arrival that passes its tests is
record Passes (k count task cost len before time : ℕ) : Type 0 where
  early : k < arrivals_limit
  task_in : (1 ≤ task) × (task ≤ count)
  length_in : (1 ≤ len) × (len ≤ cost)
  later : before ≤ time

passes : (k count task cost len before time : ℕ) → tests_of k count task cost len before time ≡ 0 → Passes k count task cost len before time
passes k count task cost len before time e =
    let first = gate (leb arrivals_limit k || outside count task) 25 _ (λ z. omega arith) e in
    let second = gate (outside cost len) 26 _ (λ z. omega arith) first.1 in
    let third = gate (ltb time before) 27 0 (λ z. omega arith) second.1 in
    record {
      early = leb-false arrivals_limit k (or_false_left _ (outside count task) first.0);
      task_in = inside count task (or_false_right (leb arrivals_limit k) _ first.0);
      length_in = inside cost len second.0;
      later = ltb-false time before third.0;
    }

module _ (pl : Plan) (xs : List ℕ) where
  -- of n arrivals from one on
  from_each : (k n j : ℕ) → j < n → (refusal_from pl xs k n).no ≡ 0 → arrival_tests pl xs (k + j) ≡ 0
  unfolding refusal_from
  from_each k zero j h e = absurd (omega arith)
  from_each k (suc n) zero h e =
      by_cases (eqb (arrival_tests pl xs k) 0)
      (λ f. let z : k + 0 ≡ k = omega arith in rw z (eqb-true _ 0 f))
      (λ f. absurd (eqb-false _ 0 f (rw (f, f) at e)))
  from_each k (suc n) (suc j) h e =
      by_cases (eqb (arrival_tests pl xs k) 0)
      (λ f. let z : k + 1 + j ≡ k + suc j = omega arith in rw z at (from_each (k + 1) n j (omega arith) (rw f at e)))
      (λ f. absurd (eqb-false _ 0 f (rw (f, f) at e)))

  -- each of the first n, where none of them is refused
  pub each : (n k : ℕ) → k < n → (arrivals_refusal pl xs n).no ≡ 0 → arrival_tests pl xs k ≡ 0
  unfolding arrivals_refusal
  each n k h e = let z : 0 + k ≡ k = omega arith in rw z at (from_each 0 n k h e)

  -- what that says of it
  each_passes : (n k : ℕ) → k < n → (arrivals_refusal pl xs n).no ≡ 0
      → Passes k pl.count (arrival_task xs k) (arrival_cost pl xs k) (arrival_length xs k) (time_before xs k) (arrival_time xs k)
  unfolding arrival_tests
  each_passes n k h e = passes _ _ _ _ _ _ _ (each n k h e)

  -- they are fine
  pub fine : (n : ℕ) → (arrivals_refusal pl xs n).no ≡ 0 → Fine pl xs n
  fine n e = record {
    few = elim (dec_lt arrivals_limit n) [ yes h ↦ absurd (omega (arith, (each_passes n arrivals_limit h e).early)) | no h ↦ omega arith ];
    task_from = λ k h. (each_passes n k h e).task_in.0;
    task_to = λ k h. (each_passes n k h e).task_in.1;
    some = λ k h. (each_passes n k h e).length_in.0;
    fits = λ k h. (each_passes n k h e).length_in.1;
    rising = λ k h. rw (ap (time_before xs) (add-one k)) at (each_passes n (k + 1) h e).later;
  }

-- a number from 1 to n is not outside
not_outside : (n i : ℕ) → 1 ≤ i → i ≤ n → outside n i ≡ false
not_outside n i h k = or_false (eqb i 0) (ltb n i) (ne_eqb i 0 (λ z. omega arith)) (le-ltb n i k)

-- no test applies
no_test : (k count task cost len before time : ℕ) → k < arrivals_limit → 1 ≤ task → task ≤ count → 1 ≤ len → len ≤ cost → before ≤ time
    → tests_of k count task cost len before time ≡ 0
no_test k count task cost len before time a b c d e f =
    rw (lt-leb arrivals_limit k a, not_outside count task b c, not_outside cost len d e, le-ltb time before f) refl

module _ (pl : Plan) (xs : List ℕ) where
  -- the time before is no later
  before_no_later : (n : ℕ) → Fine pl xs n → (k : ℕ) → k < n → time_before xs k ≤ arrival_time xs k
  before_no_later n h zero l = omega arith
  before_no_later n h (suc k) l = let z : k + 1 ≡ suc k = add-one k in rw z at (h.rising k (omega arith))

  -- none of the tests applies to arrivals that are fine
  fine_each : (n : ℕ) → Fine pl xs n → (k : ℕ) → k < n → arrival_tests pl xs k ≡ 0
  unfolding arrival_tests
  fine_each n h k l =
      no_test k pl.count (arrival_task xs k) (arrival_cost pl xs k) (arrival_length xs k) (time_before xs k) (arrival_time xs k)
      (omega (arith, h.few)) (h.task_from k l) (h.task_to k l) (h.some k l) (h.fits k l) (before_no_later n h k l)

  from_none : (k n : ℕ) → ((j : ℕ) → j < n → arrival_tests pl xs (k + j) ≡ 0) → refusal_from pl xs k n ≡ taken
  unfolding refusal_from
  from_none k zero f = refl
  from_none k (suc n) f =
      let z : k + 0 ≡ k = omega arith in
      let e : arrival_tests pl xs k ≡ 0 = rw z at (f 0 (omega arith)) in
      rw e (from_none (k + 1) n (λ j h. let y : k + suc j ≡ k + 1 + j = omega arith in rw y at (f (suc j) (omega arith))))

  -- so none of them is refused
  pub fine_taken : (n : ℕ) → Fine pl xs n → arrivals_refusal pl xs n ≡ taken
  unfolding arrivals_refusal
  fine_taken n h = from_none 0 n (λ j l. let z : 0 + j ≡ j = omega arith in rw z (fine_each n h j l))
