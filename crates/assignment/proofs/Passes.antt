-- Both passes together.
use Prim.Native.Nat.{ℕ, ◌+◌, ◌≤◌, ◌<◌}
use mathlib.Core.Path.{◌≡◌, refl, ap, ◌∙◌, subst⁻¹}
use mathlib.Core.Bool.{cond}
use mathlib.Core.List.{List, [], ◌∷◌, map}
use native.Mathlib.Omega.{arith}
use lib.Dec.{leb}
use lib.ListN.{length, get_or}
use borrow.Author.Tests.{leb-true, leb-false}
use Rattle.lists.specs.Lists.{total, most, at_most, bit}
use Rattle.lists.specs.Rows.{how_many, column}
use Rattle.lists.proofs.Tests.{by_cases}
use Rattle.lists.proofs.Lists.{at_most_is, at_most_lt}
use Rattle.assignment.specs.Passes.{pass_two, whole, less, passes}
use Rattle.task_shares.specs.Movers.{upper, lower}
use Rattle.assignment.proofs.Poured.{pour, poured}
use Rattle.assignment.proofs.Loads.{movers_row}
use Rattle.assignment.proofs.CutKeeps.{pour_sums, pour_column, pour_uppers, pour_lowers}
use Rattle.assignment.proofs.Whole.{whole_sum, whole_stays, whole_less, less_length, less_sum}

-- by cases: nothing is left, the task fits, or it is the first misfit
pub passes_ind : (P : List ℕ → List ℕ → List (List ℕ) → Type 0)
    → ((room : List ℕ) → P [] room [])
    → ((w : ℕ) (ws room : List ℕ) → w ≤ most room
    → P ws (less w (at_most room) room) (passes ws (less w (at_most room) room))
    → P (w ∷ ws) room (whole w (at_most room) room ∷ passes ws (less w (at_most room) room)))
    → ((w : ℕ) (ws room : List ℕ) → most room < w → P (w ∷ ws) room (pour (w ∷ ws) room))
    → (ws room : List ℕ) → P ws room (passes ws room)
passes_ind P none fits misfit [] room = none room
passes_ind P none fits misfit (w ∷ ws) room =
    let a : List (List ℕ) = whole w (at_most room) room ∷ passes ws (less w (at_most room) room) in
    let b : List (List ℕ) = pass_two 0 (w ∷ ws) room in
    by_cases (leb w (most room))
    (λ e.
    subst⁻¹ (P (w ∷ ws) room) (ap (λ t. cond t a b) e)
    (fits w ws room (leb-true w (most room) e) (passes_ind P none fits misfit ws (less w (at_most room) room))))
    (λ e. subst⁻¹ (P (w ∷ ws) room) (ap (λ t. cond t a b) e ∙ poured 0 (w ∷ ws) room) (misfit w ws room (leb-false w (most room) e)))

-- each task is given its whole weight, where there is room for all
pub passes_sums : (ws room : List ℕ) → 0 < length room → total ws ≤ total room → map total (passes ws room) ≡ ws
passes_sums =
    passes_ind (λ ws room rs. 0 < length room → total ws ≤ total room → map total rs ≡ ws)
    (λ room h k. refl)
    (λ w ws room fit ih h k.
    let q : ℕ = at_most room in
    let e : total (whole w q room) ≡ w = whole_sum w q room (at_most_lt room h) in
    let ih' : map total (passes ws (less w q room)) ≡ ws =
    ih (omega (arith, less_length w q room)) (omega (arith, less_sum w q room (omega (arith, at_most_is room)))) in
    λ i. e i ∷ ih' i)
    (λ w ws room misfit h k. pour_sums (w ∷ ws) room k)

module _ (p : ℕ) where
  -- no core is filled past its room
  pub passes_column : (ws room : List ℕ) → column p (passes ws room) ≤ get_or room p 0
  passes_column =
      passes_ind (λ ws room rs. column p rs ≤ get_or room p 0)
      (λ room. omega arith)
      (λ w ws room fit ih. omega (arith, ih, whole_less p w (at_most room) room (omega (arith, at_most_is room))))
      (λ w ws room misfit. pour_column p (w ∷ ws) room)

  -- a task of pass one is no mover
  whole_neither : (w q : ℕ) (room : List ℕ) → bit (upper p (whole w q room)) + bit (lower p (whole w q room)) ≡ 0
  whole_neither w q room = movers_row p (whole w q room) ∙ ap bit (whole_stays p w q room)

  -- at most one upper mover
  pub passes_uppers : (ws room : List ℕ) → how_many (upper p) (passes ws room) ≤ 1
  passes_uppers =
      passes_ind (λ ws room rs. how_many (upper p) rs ≤ 1)
      (λ room. omega arith)
      (λ w ws room fit ih. omega (arith, whole_neither w (at_most room) room))
      (λ w ws room misfit. omega (arith, pour_uppers p (w ∷ ws) room))

  -- and one lower
  pub passes_lowers : (ws room : List ℕ) → how_many (lower p) (passes ws room) ≤ 1
  passes_lowers =
      passes_ind (λ ws room rs. how_many (lower p) rs ≤ 1)
      (λ room. omega arith)
      (λ w ws room fit ih. omega (arith, whole_neither w (at_most room) room))
      (λ w ws room misfit. omega (arith, pour_lowers p (w ∷ ws) room))
