-- On a core with a mover some fixed task weighs at least as much.
use Prim.Native.Nat.{ℕ, ◌≤◌, ◌<◌}
use mathlib.Core.Path.{◌≡◌, ◌∙◌}
use mathlib.Core.Bool.{Bool, true, false}
use mathlib.Core.List.{List, [], ◌∷◌}
use native.Mathlib.Omega.{arith}
use lib.Dec.{eqb}
use lib.ListN.{length, get_or}
use borrow.Author.Tests.{eqb-true, eqb-false}
use Rattle.lists.specs.Lists.{total, most, at_most, val}
use Rattle.lists.specs.Rows.{top}
use Rattle.lists.proofs.Tests.{by_cases}
use Rattle.lists.proofs.Lists.{most_ge}
use Rattle.assignment.specs.Passes.{whole, less, passes}
use Rattle.task_shares.specs.Movers.{fixed_on, moves_on}
use Rattle.assignment.proofs.Poured.{cut, rest, pour}
use Rattle.assignment.proofs.CutKeeps.{cut_sum}
use Rattle.assignment.proofs.Whole.{whole_sum_le, whole_moves, whole_weighs, less_other, less_length}
use Rattle.assignment.proofs.Passes.{passes_ind}

-- weights that fall, and are positive
abbrev pub Falls : List ℕ → Type 0
Falls [] = Unit {0}
Falls (w ∷ ws) = (most ws ≤ w) × (0 < w) × Falls ws

val_le : (b : Bool) (n : ℕ) → val b n ≤ n
val_le true n = omega arith
val_le false n = omega arith

-- no row of pass two weighs more than the heaviest task
pour_top : (f : List ℕ → Bool) (ws room : List ℕ) → top f (pour ws room) ≤ most ws
pour_top f [] room = omega arith
pour_top f (w ∷ ws) room =
    omega (arith, pour_top f ws (rest w room), val_le (f (cut w room)) (total (cut w room)), cut_sum w room)

-- and none of both passes
passes_top : (f : List ℕ → Bool) (ws room : List ℕ) → top f (passes ws room) ≤ most ws
passes_top f =
    passes_ind (λ ws room rs. top f rs ≤ most ws)
    (λ room. omega arith)
    (λ w ws room fit ih.
    let r : List ℕ = whole w (at_most room) room in
    omega (arith, val_le (f r) (total r), whole_sum_le w (at_most room) room))
    (λ w ws room misfit. pour_top f (w ∷ ws) room)

module _ (l p : ℕ) where
  -- from an empty core p on: the first task there is fixed, and outweighs all that follow
  pub passes_guard : (ws room : List ℕ) → Falls ws → most ws ≤ l → get_or room p 0 ≡ l → p < length room
      → top (moves_on p) (passes ws room) ≤ top (fixed_on p) (passes ws room)
  passes_guard =
      passes_ind
      (λ ws room rs. Falls ws → most ws ≤ l → get_or room p 0 ≡ l → p < length room → top (moves_on p) rs ≤ top (fixed_on p) rs)
      (λ room f m e h. omega arith)
      (λ w ws room fit ih f m e h.
      let q : ℕ = at_most room in
      let stays = whole_moves p w q room in
      by_cases (eqb q p)
      (λ same. omega (arith, whole_weighs p w q room (eqb-true q p same) h f.1, passes_top (moves_on p) ws (less w q room)))
      (λ other.
      let kept : get_or (less w q room) p 0 ≡ l = less_other p w q room (eqb-false q p other) ∙ e in
      omega (arith, ih f.2 (omega arith) kept (omega (arith, less_length w q room)))))
      (λ w ws room misfit f m e h. absurd (omega (arith, most_ge room p)))
