-- Tests 5 and 6, and the answer.
use Prim.Native.Nat.{ℕ, ◌*◌, ◌≤◌, ◌<◌, ◌∣◌}
use mathlib.Core.Path.{◌≡◌, refl, sym, ap, ◌∙◌, subst}
use mathlib.Core.List.{List}
use native.Mathlib.Omega.{arith}
use native.Mathlib.Nat.{mul-le-mul}
use lib.ListN.{get_or}
use borrow.Author.Tests.{eq-eqb, ne_eqb, lt-ltb, le-ltb}
use Rattle.units.specs.Limits.{cores_limit, common_limit}
use Rattle.lists.specs.Lists.{total}
use Rattle.arith.specs.Period.{periods, common, period_of}
use Rattle.std.proofs.Common.{Ok, Err}
use Rattle.arith.proofs.Table.{periods_at, periods_length}
use Rattle.arith.proofs.Common.{common_each}
use Rattle.arith.proofs.Within.{period_common}
use Rattle.units.specs.Refusals.{Refusal}
use Rattle.admission.specs.Weight.{weights}
use Rattle.admission.specs.Inner.{Weighable}
use Rattle.admission.specs.Refusals.{◌or_else◌, input_test, weights_test}
use Rattle.units.specs.Refusals.{refusal, taken, period_no, weights_no}
use Rattle.admission.specs.Admission.{period_test, plan_refusal, refused_with, taken_with, admission_of}
use Rattle.admission.proofs.First.{decides, leaves}
use Rattle.admission.proofs.Kept.{Kept, kept, neither}

-- a refusal is answered with it
pub answered : (m : ℕ) (xs : List ℕ) (f : Refusal) → f ≡ plan_refusal m xs → (f.no ≡ 0 → ⊥) → refused_with f ≡ admission_of m xs
unfolding admission_of
answered m xs f e n =
    sym (rw (ne_eqb (plan_refusal m xs).no 0 (λ q. n (ap (λ (r : Refusal). r.no) e ∙ q))) (ap refused_with (sym e)))

-- of tests 1 to 4
pub input_decides : (m : ℕ) (xs : List ℕ) (f : Refusal) → f ≡ input_test m xs → (f.no ≡ 0 → ⊥) → f ≡ plan_refusal m xs
unfolding plan_refusal
input_decides m xs f e n = decides f (input_test m xs)
    (period_test (period_of (periods xs)) or_else weights_test m (common (periods xs)) (weights (common (periods xs)) xs)) e n

-- a table that is taken passes all tests
pub passed : (m : ℕ) (xs : List ℕ) → (plan_refusal m xs).no ≡ 0
    → ((input_test m xs).no ≡ 0) × ((period_test (period_of (periods xs))).no ≡ 0)
    × ((weights_test m (common (periods xs)) (weights (common (periods xs)) xs)).no ≡ 0)
unfolding plan_refusal
passed m xs e =
    let one = neither (input_test m xs) (period_test (period_of (periods xs)) or_else weights_test m (common (periods xs))
    (weights (common (periods xs)) xs)) e in
    let two = neither (period_test (period_of (periods xs))) (weights_test m (common (periods xs)) (weights (common (periods xs)) xs)) one.1 in
    (one.0, two.0, two.1)

module _ (m : ℕ) (xs : List ℕ) (ok : (input_test m xs).no ≡ 0) where
  -- 5, naming the task
  pub over : (k : ℕ) → period_of (periods xs) ≡ Err k → refusal period_no k ≡ plan_refusal m xs
  unfolding plan_refusal
  over k e =
      leaves (input_test m xs) (input_test m xs) (refusal period_no k)
      (period_test (period_of (periods xs)) or_else weights_test m (common (periods xs)) (weights (common (periods xs)) xs)) refl ok
      (decides (refusal period_no k) (period_test (period_of (periods xs))) (weights_test m (common (periods xs)) (weights (common (periods xs)) xs))
      (rw e) (λ z. omega arith))

  module _ (l : ℕ) (e : period_of (periods xs) ≡ Ok l) where
    is : l ≡ common (periods xs)
    is = (period_common (periods xs) l e).0

    -- then the sum decides
    pub sum_decides : plan_refusal m xs ≡ weights_test m l (weights l xs)
    unfolding plan_refusal
    sum_decides =
        sym (leaves (input_test m xs) (input_test m xs) (weights_test m l (weights l xs))
        (period_test (period_of (periods xs)) or_else weights_test m (common (periods xs)) (weights (common (periods xs)) xs)) refl ok
        (leaves taken (period_test (period_of (periods xs))) (weights_test m l (weights l xs))
        (weights_test m (common (periods xs)) (weights (common (periods xs)) xs)) (rw e) refl
        (ap (λ (n : ℕ). weights_test m n (weights n xs)) is)))

    -- 6
    pub heavy : m * l < total (weights l xs) → refusal weights_no 0 ≡ plan_refusal m xs
    heavy h = sym (sum_decides ∙ (rw (lt-ltb (m * l) (total (weights l xs)) h)))

    -- taken
    pub light : total (weights l xs) ≤ m * l → taken_with l (weights l xs) ≡ admission_of m xs
    unfolding admission_of
    light h =
        let none : plan_refusal m xs ≡ taken = sum_decides ∙ (rw (le-ltb (m * l) (total (weights l xs)) h)) in
        rw (eq-eqb (plan_refusal m xs).no 0 (ap (λ (r : Refusal). r.no) none)) (ap (λ (n : ℕ). taken_with n (weights n xs)) is)

    -- what the weights are worked out from
    pub weighable : Weighable l xs
    weighable =
        let g : Kept m xs = kept m xs ok in
        record {
          short = g.tasks_few;
          within = (period_common (periods xs) l e).1;
          some = λ k h. omega (arith, (g.tasks k h).cost, (g.tasks k h).fits);
          fits = λ k h. (g.tasks k h).fits;
          divides = λ k h.
              subst (λ (t : ℕ). t ∣ l) (periods_at xs k)
              (subst (λ (n : ℕ). get_or (periods xs) k 0 ∣ n) (sym is) (common_each (periods xs) k (omega (arith, periods_length xs))));
        }

    -- M × L is small
    pub cores_small : m * l ≤ cores_limit * common_limit
    cores_small = mul-le-mul {n₂ = cores_limit} {m₂ = common_limit} (kept m xs ok).cores_few (period_common (periods xs) l e).1
