-- The order: its weights fall, and are those of the tasks that have one.
use Prim.Native.Nat.{ℕ, zero, suc, ◌≤◌, ◌<◌}
use mathlib.Core.Path.{◌≡◌, refl, sym, ap}
use mathlib.Core.List.{List, [], ◌∷◌}
use native.Mathlib.Omega.{arith}
use lib.ListN.{length, set}
use Rattle.lists.specs.Lists.{total, most, at_most, parts}
use Rattle.lists.proofs.Lists.{at_most_is, at_most_lt, most_some, sum_set, parts_none, parts_set, parts_most}
use Rattle.ordering.specs.Order.{picked_weights, in_order}
use Rattle.assignment.proofs.Guard.{Falls}

-- the weights that a pick leaves
abbrev pub left : List ℕ → List ℕ
left ws = set ws (at_most ws) 0

-- a pick, where k + 1 tasks have a weight
pub record Picked (k : ℕ) (ws : List ℕ) : Type 0 where
  -- it is a task
  pub there : at_most ws < length ws
  -- it has a weight
  pub some : 0 < most ws
  -- then k have one
  pub fewer : parts (left ws) ≡ k

-- a pick is so
pub picked : (k : ℕ) (ws : List ℕ) → parts ws ≡ suc k → Picked k ws
picked k ws e =
    let m : 0 < most ws = parts_most ws (omega arith) in
    record {
      there = at_most_lt ws (most_some ws 0 m);
      some = m;
      fewer = omega (arith, parts_set ws (at_most ws) (omega (arith, at_most_is ws)));
    }

-- what is left is no heavier
left_most : (ws : List ℕ) (t : ℕ) → most (set ws t 0) ≤ most ws
left_most [] t = omega arith
left_most (w ∷ ws) zero = omega arith
left_most (w ∷ ws) (suc t) = omega (arith, left_most ws t)

-- nor are the weights picked
weights_most : (k : ℕ) (ws : List ℕ) → most (picked_weights k ws) ≤ most ws
weights_most zero ws = omega arith
weights_most (suc k) ws = omega (arith, weights_most k (left ws), left_most ws (at_most ws))

-- they fall
weights_fall : (k : ℕ) (ws : List ℕ) → parts ws ≡ k → Falls (picked_weights k ws)
weights_fall zero ws e = tt
weights_fall (suc k) ws e =
    let c = picked k ws e in
    (omega (arith, weights_most k (left ws), left_most ws (at_most ws)), c.some, weights_fall k (left ws) c.fewer)

-- they are all that there is
weights_sum : (k : ℕ) (ws : List ℕ) → parts ws ≡ k → total (picked_weights k ws) ≡ total ws
weights_sum zero ws e = sym (parts_none ws e)
weights_sum (suc k) ws e =
    let c = picked k ws e in
    omega (arith, weights_sum k (left ws) c.fewer, sum_set ws (at_most ws) 0 c.there, at_most_is ws)

-- one for each pick
pub weights_length : (k : ℕ) (ws : List ℕ) → length (picked_weights k ws) ≡ k
weights_length zero ws = refl
weights_length (suc k) ws = ap suc (weights_length k (left ws))

module _ (ws : List ℕ) where
  -- the weights in order fall
  pub order_falls : Falls (in_order ws)
  unfolding in_order
  order_falls = weights_fall (parts ws) ws refl

  -- none exceeds the heaviest task's
  pub order_most : most (in_order ws) ≤ most ws
  unfolding in_order
  order_most = weights_most (parts ws) ws

  -- they sum to the tasks'
  pub order_sum : total (in_order ws) ≡ total ws
  unfolding in_order
  order_sum = weights_sum (parts ws) ws refl
