-- The weights of a table filled in task by task.
use Prim.Native.Nat.{ℕ, ◌+◌, ◌*◌, ◌/◌, ◌≤◌, ◌<◌, ◌∣◌}
use mathlib.Core.Path.{◌≡◌, refl, sym, ap, ◌∙◌}
use mathlib.Core.List.{List, [], ◌∷◌}
use native.Mathlib.Omega.{arith}
use native.Mathlib.Nat.{div-mul_cancel, mul-div_cancel, mul-le-mul, mul-le-mul_left}
use lib.ListN.{length, get_or, drop, set}
use Rattle.units.specs.Limits.{tasks_limit, common_limit}
use Rattle.lists.specs.Lists.{zeros, total}
use Rattle.lists.proofs.Pairs.{pair_drop, pair_end}
use Rattle.lists.proofs.Filled.{Filled, empty, next, full}
use Rattle.admission.specs.Weight.{weight, weights, padded}

-- a period that divides L: the quotient first gives the same weight
pub weight_exact : (l c t : ℕ) → 0 < t → t ∣ l → l / t * c ≡ weight l c t
weight_exact l c t h d =
    let e : c * l ≡ l / t * c * t = omega (arith, ap (λ (x : ℕ). x * c) (div-mul_cancel t d)) in
    sym (ap (λ (x : ℕ). x / t) e ∙ mul-div_cancel (l / t * c) h)

-- and it is at most L
pub weight_le : (l c t : ℕ) → c ≤ t → t ∣ l → l / t * c ≤ l
weight_le l c t h d = omega (arith, mul-le-mul_left (l / t) h, div-mul_cancel t d)

-- after k tasks: the first k weights stand, the others are 0, and s is their sum
pub record Weighing (l : ℕ) (xs ws : List ℕ) (s k : ℕ) : Type 0 where
  pub below : k ≤ length xs / 2
  pub filled : Filled 0 tasks_limit (weights l xs) ws (weights l (drop (2 * k) xs)) k
  pub summed : s + total (weights l (drop (2 * k) xs)) ≡ total (weights l xs)
  pub small : s ≤ k * l

pub start : (l : ℕ) (xs : List ℕ) → Weighing l xs (zeros tasks_limit) 0 0
start l xs = record { below = omega arith; filled = empty 0 tasks_limit (weights l xs); summed = omega arith; small = omega arith }

pub step : (l : ℕ) (xs ws : List ℕ) (s k w : ℕ) → Weighing l xs ws s k → 2 * k + 1 < length xs → k < tasks_limit
    → w ≡ weight l (get_or xs (2 * k) 0) (get_or xs (2 * k + 1) 0) → w ≤ l → Weighing l xs (set ws k w) (s + w) (k + 1)
step l xs ws s k w g h b e m =
    let here : weights l (drop (2 * k) xs) ≡ w ∷ weights l (drop (2 * (k + 1)) xs) = rw (pair_drop xs k h, e) in
    record {
      below = omega arith;
      filled = next 0 tasks_limit (weights l xs) ws (weights l (drop (2 * (k + 1)) xs)) k w (rw here at g.filled) b;
      summed = omega (arith, g.summed, ap total here);
      small = omega (arith, g.small);
    }

-- the sum stays small
pub sum_small : (l : ℕ) (xs ws : List ℕ) (s k : ℕ) → Weighing l xs ws s k → k ≤ tasks_limit → l ≤ common_limit → s ≤ tasks_limit * common_limit
sum_small l xs ws s k g h b = omega (arith, g.small, mul-le-mul {n₂ = tasks_limit} {m₂ = common_limit} h b)

-- a table without a whole task has no weights
weights_short : (l : ℕ) (ys : List ℕ) → length ys < 2 → weights l ys ≡ []
weights_short l [] h = refl
weights_short l (x ∷ []) h = refl
weights_short l (x ∷ y ∷ ys) h = absurd (omega arith)

pub finish : (l : ℕ) (xs ws : List ℕ) (s k : ℕ) → Weighing l xs ws s k → length xs / 2 ≤ k → k ≤ tasks_limit
    → (ws ≡ padded (weights l xs)) × (s ≡ total (weights l xs))
finish l xs ws s k g h b =
    let none : weights l (drop (2 * k) xs) ≡ [] = weights_short l (drop (2 * k) xs) (pair_end xs k h) in
    (full 0 tasks_limit (weights l xs) ws (weights l (drop (2 * k) xs)) k g.filled none b, omega (arith, g.summed, ap total none))
