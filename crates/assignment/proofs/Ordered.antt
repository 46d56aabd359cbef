-- The order as the definitions have it: its tasks are among the box's, and both passes over them give the shares.
use Prim.Native.Nat.{ℕ, zero, suc, ◌-◌, ◌<◌}
use mathlib.Core.Path.{◌≡◌, refl, sym, ◌∙◌}
use mathlib.Core.List.{List, [], ◌∷◌}
use native.Mathlib.Omega.{arith}
use lib.ListN.{length, get_or, length-map, length-append, length-replicate, get_or-append}
use lib.Seq.{ext_get_or, take_at}
use Rattle.units.specs.Limits.{cores_limit, tasks_limit}
use Rattle.lists.specs.Lists.{zeros, parts}
use Rattle.lists.proofs.Lists.{parts_len}
use Rattle.ordering.specs.Order.{order, in_order, ordered_of}
use Rattle.ordering.proofs.Picks.{order_length, in_order_length, order_place, in_order_at}
use Rattle.assignment.specs.Passes.{empty_rows, shares_of}
use Rattle.assignment.specs.Inner.{weigh, assign, from, Among}

-- the weight of the i-th of some tasks
weigh_at : (ws ts : List ℕ) (i : ℕ) → i < length ts → get_or (weigh ws ts) i 0 ≡ get_or ws (get_or ts i 0) 0
weigh_at ws [] i h = absurd (omega arith)
weigh_at ws (t ∷ ts) zero h = refl
weigh_at ws (t ∷ ts) (suc i) h = weigh_at ws ts i (omega arith)

-- the weights of the tasks in order
pub weigh_order : (ws : List ℕ) → weigh ws (order ws) ≡ in_order ws
weigh_order ws =
    let n = length-map (order ws) (λ (t : ℕ). get_or ws t 0) in
    ext_get_or 0 (weigh ws (order ws)) (in_order ws) (n ∙ order_length ws ∙ sym (in_order_length ws))
    (λ i h. weigh_at ws (order ws) i (omega arith) ∙ sym (in_order_at ws i (omega (arith, order_length ws))))

module _ (ws : List ℕ) (l : length ws ≡ tasks_limit) where
  -- its tasks are among the box's
  pub among : Among (ordered_of ws)
  unfolding ordered_of
  among = record {
    long = simp (length-append, length-replicate, order_length) (omega (arith, parts_len ws));
    few = omega (arith, parts_len ws);
    low = λ i h.
        let q : i < length (order ws) = omega (arith, order_length ws) in
        rw get_or-append (omega (arith, (order_place ws i h).0));
  }

  -- both passes over them give the shares
  pub shares_are : (room : List ℕ) → length room ≡ cores_limit → assign ws (from (ordered_of ws) 0) room (empty_rows tasks_limit cores_limit)
      ≡ shares_of ws room
  unfolding ordered_of shares_of
  shares_are room k = rw (take_at (order ws) (zeros (tasks_limit - parts ws)) (parts ws) (order_length ws), weigh_order ws, l, k)
