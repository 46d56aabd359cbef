-- The passes over sixteen cores, of which m are in use, are those over the m cores alone: the others are given nothing.
use Prim.Native.Nat.{ℕ, zero, suc, ◌-◌, ◌<◌, min}
use mathlib.Core.Path.{◌≡◌, refl, sym, ap, ◌∙◌}
use mathlib.Core.List.{List, [], ◌∷◌, ◌++◌, map}
use native.Mathlib.Omega.{arith}
use lib.Dec.{leb}
use lib.ListN.{length, get_or, set, replicate, length-set, length-replicate}
use Rattle.units.specs.Limits.{cores_limit}
use Rattle.lists.specs.Lists.{zeros, most, at_most}
use Rattle.lists.proofs.Tests.{by_cases}
use Rattle.lists.proofs.Lists.{zeros_at, at_most_lt}
use Rattle.lists.proofs.Filled.{default_after}
use Rattle.admission.proofs.Padded.{most_zeros}
use Rattle.assignment.specs.Passes.{whole, less, pass_two, passes, rooms}
use Rattle.assignment.specs.Load.{room_of, by_load}
use Rattle.assignment.proofs.Poured.{cut, rest, pour, poured}
use Rattle.assignment.proofs.Load.{by_load_lem}
use Rattle.demands.proofs.Beneath.ZerosAfter.{at_most_zeros, set_zeros, long_zeros}

-- cores without room give nothing
cut_zeros : (n k : ℕ) → cut n (zeros k) ≡ zeros k
cut_zeros n zero = refl
cut_zeros n (suc k) =
    let a : min n 0 ≡ 0 = omega arith in
    let b : n - 0 ≡ n = omega arith in
    rw (a, b, cut_zeros n k)

-- and have none left
rest_zeros : (n k : ℕ) → rest n (zeros k) ≡ zeros k
rest_zeros n zero = refl
rest_zeros n (suc k) =
    let a : 0 - n ≡ 0 = omega arith in
    let b : n - 0 ≡ n = omega arith in
    rw (a, b, rest_zeros n k)

module _ (k : ℕ) where
  -- a row with k cores more
  abbrev pub wider : List ℕ → List ℕ
  wider row = row ++ zeros k

  cut_wider : (n : ℕ) (room : List ℕ) → cut n (wider room) ≡ wider (cut n room)
  cut_wider n [] = cut_zeros n k
  cut_wider n (r ∷ rs) = ap (λ (xs : List ℕ). min n r ∷ xs) (cut_wider (n - r) rs)

  rest_wider : (n : ℕ) (room : List ℕ) → rest n (wider room) ≡ wider (rest n room)
  rest_wider n [] = rest_zeros n k
  rest_wider n (r ∷ rs) = ap (λ (xs : List ℕ). (r - n) ∷ xs) (rest_wider (n - r) rs)

  -- pass two
  pour_wider : (ws room : List ℕ) → pour ws (wider room) ≡ map wider (pour ws room)
  pour_wider [] room = refl
  pour_wider (w ∷ ws) room = rw (rest_wider w room, cut_wider w room, pour_wider ws (rest w room))

  two_wider : (ws room : List ℕ) → pass_two 0 ws (wider room) ≡ map wider (pass_two 0 ws room)
  two_wider ws room = poured 0 ws (wider room) ∙ pour_wider ws room ∙ ap (map wider) (sym (poured 0 ws room))

  -- pass one: a task given wholly to a core in use
  whole_wider : (w p : ℕ) (room : List ℕ) → p < length room → whole w p (wider room) ≡ wider (whole w p room)
  whole_wider w p room h =
      ap (λ (ys : List ℕ). set ys p w) (long_zeros k room) ∙ set_zeros k (zeros (length room)) p w (omega (arith, length-replicate {A = ℕ} (length room) 0))

  less_wider : (w p : ℕ) (room : List ℕ) → p < length room → less w p (wider room) ≡ wider (less w p room)
  less_wider w p room h = ap (λ (x : ℕ). set (wider room) p (x - w)) (default_after 0 room k p) ∙ set_zeros k room p (get_or room p 0 - w) h

  -- both
  passes_wider : (ws room : List ℕ) → 0 < length room → passes ws (wider room) ≡ map wider (passes ws room)
  passes_wider [] room h = refl
  passes_wider (w ∷ ws) room h =
      let p : ℕ = at_most room in
      let low : p < length room = at_most_lt room h in
      rw (most_zeros room k, at_most_zeros k room)
      (by_cases (leb w (most room))
      (λ e. rw (e, whole_wider w p room low, less_wider w p room low)
      (ap (λ (rs : List (List ℕ)). wider (whole w p room) ∷ rs) (passes_wider ws (less w p room) (omega (arith, length-set room p (get_or room p 0 - w))))))
      (λ e. rw e (two_wider (w ∷ ws) room)))

-- m empty cores have room for l units each
empty_room : (m l : ℕ) → room_of l (zeros m) ≡ replicate m l
empty_room zero l = refl
empty_room (suc m) l = let e : l - 0 ≡ l = omega arith in λ i. e i ∷ empty_room m l i

-- the passes of a plan, by the load of the m cores: each row is wider by the cores that are not in use
pub in_use : (m l : ℕ) (ws : List ℕ) → 0 < m → passes ws (rooms m l) ≡ map (wider (cores_limit - m)) (by_load l ws (zeros m))
in_use m l ws h =
    passes_wider (cores_limit - m) ws (replicate m l) (omega (arith, length-replicate m l))
    ∙ ap (map (wider (cores_limit - m)))
    (ap (passes ws) (sym (empty_room m l))
    ∙ by_load_lem l ws (zeros m) (omega (arith, length-replicate {A = ℕ} m 0)) (λ p. omega (arith, zeros_at m p)))
