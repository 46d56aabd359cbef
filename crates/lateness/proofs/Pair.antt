-- The movers of a core are its upper and its lower one.
use Prim.Native.Nat.{ℕ, suc, ◌+◌, ◌*◌, ◌≤◌}
use mathlib.Core.Path.{◌≡◌, refl, sym, ap, ◌∙◌}
use mathlib.Core.Bool.{Bool, true, false, not, ◌&&◌}
use mathlib.Core.List.{List, [], ◌∷◌, map}
use native.Mathlib.Omega.{arith}
use lib.Dec.{eqb}
use lib.ListN.{get_or}
use Rattle.units.specs.Limits.{cores_limit}
use Rattle.units.proofs.Units.{nums_units}
use Rattle.lists.specs.Lists.{zeros, val, seek}
use Rattle.lists.specs.Rows.{how_many}
use Rattle.lists.proofs.Tests.{by_cases}
use Rattle.lists.proofs.Lists.{zeros_at}
use Rattle.task_shares.specs.Movers.{moves_on, first_core, upper, lower}
use Rattle.assignment.proofs.Loads.{count_movers}
use Rattle.assignment.specs.Properties.{row_share}
use Rattle.planning.specs.declared.Line.{Line}
use Rattle.planning.specs.Plan.{empty_line, no_line, row_of}
use Rattle.lateness.specs.Lateness.{first, upper_on, lower_on, over_movers, share_on, reach_of, push}

-- the empty line has no share
pub empty_share : (p : ℕ) → share_on p empty_line ≡ 0
unfolding empty_line
empty_share p = ap (λ (xs : List ℕ). get_or xs p 0) (nums_units (zeros cores_limit)) ∙ zeros_at cores_limit p

-- the empty line pushes nothing
pub empty_load : (rs : List ℕ) (p l : ℕ) → push rs p empty_line + l * (2 * empty_line.cost.0) ≡ 0
unfolding empty_line
empty_load rs p l = omega (arith, ap (λ (s : ℕ). s * (reach_of rs empty_line + empty_line.period.0)) (empty_share p))

module _ (f : List ℕ → Bool) where
  -- the first line's share is that of the first row
  pub first_share : (p : ℕ) (lns : List Line) → share_on p (first (λ ln. f (row_of ln)) lns) ≡ row_share (map row_of lns) (seek f (map row_of lns)) p
  first_share p [] = empty_share p
  first_share p (ln ∷ lns) = by_cases (f (row_of ln)) (λ e. rw e) (λ e. rw e (first_share p lns))

  -- what bounds every line bounds the first
  pub first_le : (g : Line → ℕ) (b : ℕ) → g empty_line ≤ b → (lns : List Line) → ((i : ℕ) → g (get_or lns i no_line) ≤ b)
      → g (first (λ ln. f (row_of ln)) lns) ≤ b
  first_le g b z [] k = z
  first_le g b z (ln ∷ lns) k = by_cases (f (row_of ln)) (λ e. rw e (k 0)) (λ e. rw e (first_le g b z lns (λ i. k (suc i))))

  -- a number of each line that passes a test, summed
  abbrev over : (Line → ℕ) → List Line → ℕ
  over g [] = 0
  over g (ln ∷ lns) = val (f (row_of ln)) (g ln) + over g lns

  -- if none passes it is 0
  over_none : (g : Line → ℕ) (lns : List Line) → how_many f (map row_of lns) ≡ 0 → over g lns ≡ 0
  over_none g [] e = refl
  over_none g (ln ∷ lns) e =
      by_cases (f (row_of ln))
      (λ t. absurd (omega (arith, rw t at e)))
      (λ t. rw t (omega (arith, over_none g lns (omega (arith, rw t at e)))))

  -- if no more than one does it is that one's
  over_one : (g : Line → ℕ) → g empty_line ≡ 0 → (lns : List Line) → how_many f (map row_of lns) ≤ 1
      → over g lns ≡ g (first (λ ln. f (row_of ln)) lns)
  over_one g z [] k = sym z
  over_one g z (ln ∷ lns) k =
      by_cases (f (row_of ln))
      (λ t. let n : how_many f (map row_of lns) ≡ 0 = omega (arith, rw t at k) in rw t (omega (arith, over_none g lns n)))
      (λ t. rw t (omega (arith, over_one g z lns (omega (arith, rw t at k)))))

-- a test and its contrary
val_split : (a b : Bool) (n : ℕ) → val a n ≡ val (a && not b) n + val (a && b) n
val_split true true n = omega arith
val_split true false n = omega arith
val_split false b n = refl

module _ (p : ℕ) (g : Line → ℕ) where
  over_split : (lns : List Line) → over_movers p g lns ≡ over (upper p) g lns + over (lower p) g lns
  over_split [] = refl
  over_split (ln ∷ lns) = omega (arith, val_split (moves_on p (row_of ln)) (eqb (first_core (row_of ln)) p) (g ln), over_split lns)

  -- a sum over the movers
  pub over_pair : g empty_line ≡ 0 → (lns : List Line) → how_many (upper p) (map row_of lns) ≤ 1 → how_many (lower p) (map row_of lns) ≤ 1
      → over_movers p g lns ≡ g (upper_on p lns) + g (lower_on p lns)
  over_pair z lns u w = omega (arith, over_split lns, over_one (upper p) g z lns u, over_one (lower p) g z lns w)

  -- of no mover it is 0
  pub over_nobody : (lns : List Line) → how_many (moves_on p) (map row_of lns) ≡ 0 → over_movers p g lns ≡ 0
  over_nobody lns e =
      let n = count_movers p (map row_of lns) in
      omega (arith, over_split lns, over_none (upper p) g lns (omega arith), over_none (lower p) g lns (omega arith))
