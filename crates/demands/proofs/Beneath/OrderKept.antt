-- The weights in order, each at its task's place. Zeros after the weights change neither the weights in order nor the place of a task that has a weight.
use Prim.Native.Nat.{ℕ, zero, suc, ◌+◌, ◌≤◌, ◌<◌}
use mathlib.Core.Path.{◌≡◌, refl, ap, ◌∙◌}
use mathlib.Core.List.{List, [], ◌∷◌, ◌++◌}
use native.Mathlib.Omega.{arith}
use lib.ListN.{length, get_or, set, length-append, length-replicate, get_or-eq_default}
use lib.Dec.{eqb}
use borrow.Author.Tests.{lt-ltb, le-ltb, eqb-true, eqb-false, ne_eqb}
use Rattle.lists.specs.Lists.{zeros, most, at_most, parts, bit}
use Rattle.lists.proofs.Lists.{at_most_lt, most_some, parts_most, parts_cons}
use Rattle.lists.proofs.Tests.{by_cases}
use Rattle.lists.proofs.Filled.{default_after}
use Rattle.admission.proofs.Padded.{most_zeros}
use Rattle.ordering.specs.Order.{goes_before, places, place_of, picked_weights, order, in_order}
use Rattle.ordering.proofs.Picks.{left_parts, in_order_length, order_place, place_order, in_order_at}
use Rattle.demands.proofs.Beneath.ZerosAfter.{at_most_zeros, parts_zeros, set_zeros}

module _ (k : ℕ) where
  -- the picks are the same
  picked_zeros : (n : ℕ) (ws : List ℕ) → parts ws ≡ n → picked_weights n (ws ++ zeros k) ≡ picked_weights n ws
  picked_zeros zero ws e = refl
  picked_zeros (suc n) ws e =
      let t : ℕ = at_most ws in
      let low : t < length ws = at_most_lt ws (most_some ws 0 (parts_most ws (omega arith))) in
      rw (most_zeros ws k, at_most_zeros k ws, set_zeros k ws t 0 low)
      (ap (λ (xs : List ℕ). most ws ∷ xs) (picked_zeros n (set ws t 0) (left_parts n ws e)))

  -- so are the weights in order
  pub in_order_zeros : (ws : List ℕ) → in_order (ws ++ zeros k) ≡ in_order ws
  unfolding in_order
  in_order_zeros ws = rw (parts_zeros k ws) (picked_zeros (parts ws) ws refl)

  -- of the first n tasks as many go before a task
  places_zeros : (n : ℕ) (ws : List ℕ) (i : ℕ) → places n (ws ++ zeros k) i ≡ places n ws i
  places_zeros zero ws i = refl
  places_zeros (suc n) ws i = rw (places_zeros n ws i, default_after 0 ws k n, default_after 0 ws k i)

-- a task that is not there goes before none
not_before : (ws : List ℕ) (i j : ℕ) → 0 < get_or ws i 0 → get_or ws j 0 ≡ 0 → bit (goes_before ws j i) ≡ 0
not_before ws i j h z = rw (z, le-ltb (get_or ws i 0) 0 (omega arith), ne_eqb 0 (get_or ws i 0) (λ e. omega arith))

places_past : (n : ℕ) (ws : List ℕ) (i : ℕ) → length ws ≤ n → 0 < get_or ws i 0 → places n ws i ≡ places (length ws) ws i
places_past zero ws i l h = let e : length ws ≡ 0 = omega arith in rw e
places_past (suc n) ws i l h =
    by_cases (eqb (length ws) (suc n))
    (λ e. rw (eqb-true (length ws) (suc n) e))
    (λ e.
    let low : length ws ≤ n = omega (arith, eqb-false (length ws) (suc n) e) in
    omega (arith, places_past n ws i low h, not_before ws i n h (get_or-eq_default ws 0 {n = n} low)))

-- and so is a task's place
pub place_zeros : (k : ℕ) (ws : List ℕ) (i : ℕ) → 0 < get_or ws i 0 → place_of (ws ++ zeros k) i ≡ place_of ws i
unfolding place_of
place_zeros k ws i h =
    let n : length (ws ++ zeros k) ≡ k + length ws = omega (arith, length-append ws (zeros k), length-replicate {A = ℕ} k 0) in
    rw n (places_zeros k (k + length ws) ws i ∙ places_past (k + length ws) ws i (omega arith) h)

-- if every number is positive, as many are
all_parts : (ws : List ℕ) → ((k : ℕ) → k < length ws → 0 < get_or ws k 0) → parts ws ≡ length ws
all_parts [] h = refl
all_parts (w ∷ ws) h = omega (arith, parts_cons w ws, ap bit (lt-ltb 0 w (h 0 (omega arith))), all_parts ws (λ k l. h (suc k) (omega arith)))

-- n tasks that each have a weight
module _ (ws : List ℕ) (n : ℕ) (long : length ws ≡ n) (some : (k : ℕ) → k < n → 0 < get_or ws k 0) where
  all_have : parts ws ≡ n
  all_have = all_parts ws (λ k h. some k (omega arith)) ∙ long

  -- as many weights in order
  pub order_whole : length (in_order ws) ≡ n
  order_whole = in_order_length ws ∙ all_have

  -- each at its task's place
  pub weight_at_place : (k : ℕ) → k < n → (place_of ws k < n) × (get_or (in_order ws) (place_of ws k) 0 ≡ get_or ws k 0)
  weight_at_place k h =
      let p = place_order ws k (some k h) in
      (omega (arith, p.0, all_have), in_order_at ws (place_of ws k) p.0 ∙ ap (λ (j : ℕ). get_or ws j 0) p.1)

  -- each place is a task's
  pub task_at_place : (p : ℕ) → p < n → (k : ℕ) × (k < n) × (place_of ws k ≡ p)
  task_at_place p h =
      let o = order_place ws p (omega (arith, all_have)) in
      (get_or (order ws) p 0, omega (arith, o.0), o.2)
