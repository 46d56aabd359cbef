-- The tasks of a table tested one by one.
use Prim.Native.Nat.{ℕ, ◌+◌, ◌*◌, ◌/◌, ◌≤◌, ◌<◌}
use mathlib.Core.Path.{◌≡◌, refl, sym, ◌∙◌}
use mathlib.Core.List.{List, [], ◌∷◌}
use native.Mathlib.Omega.{arith}
use native.Mathlib.Numerals.{add-one}
use lib.ListN.{length, get_or, drop}
use Rattle.lists.proofs.Pairs.{pair_drop, pair_end}
use Rattle.units.specs.Refusals.{Refusal}
use Rattle.admission.specs.Refusals.{◌or_else◌, task_test, tasks_test}
use Rattle.units.specs.Refusals.{taken}
use Rattle.admission.proofs.First.{decides, leaves}

-- task k + 1 of the table, and the tasks after it
module _ (xs : List ℕ) (k : ℕ) (h : 2 * k + 1 < length xs) (f : Refusal) (e : f ≡ task_test (k + 1) (get_or xs (2 * k) 0) (get_or xs (2 * k + 1) 0)) where
  here : tasks_test (k + 1) (drop (2 * k) xs) ≡
      (task_test (k + 1) (get_or xs (2 * k) 0) (get_or xs (2 * k + 1) 0) or_else tasks_test (k + 1 + 1) (drop (2 * (k + 1)) xs))
  here = rw (pair_drop xs k h, add-one (k + 1))

  -- a faulty task decides
  pub tasks_stop : (f.no ≡ 0 → ⊥) → tasks_test (k + 1) (drop (2 * k) xs) ≡ f
  tasks_stop n = here ∙ sym (decides f (task_test (k + 1) (get_or xs (2 * k) 0) (get_or xs (2 * k + 1) 0)) (tasks_test (k + 1 + 1) (drop (2 * (k + 1)) xs)) e n)

  -- another leaves it to those after it
  pub tasks_go : f.no ≡ 0 → tasks_test (k + 1) (drop (2 * k) xs) ≡ tasks_test (k + 1 + 1) (drop (2 * (k + 1)) xs)
  tasks_go z = here ∙ sym
      (leaves f (task_test (k + 1) (get_or xs (2 * k) 0) (get_or xs (2 * k + 1) 0)) (tasks_test (k + 1 + 1) (drop (2 * (k + 1)) xs))
      (tasks_test (k + 1 + 1) (drop (2 * (k + 1)) xs)) e z refl)

none : (i : ℕ) (ys : List ℕ) → length ys < 2 → tasks_test i ys ≡ taken
none i [] h = refl
none i (x ∷ []) h = refl
none i (x ∷ y ∷ ys) h = absurd (omega arith)

-- past the last task nothing is left to test
pub tasks_end : (xs : List ℕ) (i k : ℕ) → length xs / 2 ≤ k → tasks_test i (drop (2 * k) xs) ≡ taken
tasks_end xs i k h = none i (drop (2 * k) xs) (pair_end xs k h)
