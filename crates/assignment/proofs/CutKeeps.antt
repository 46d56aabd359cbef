-- Pass two, by sums over the first cores: a task takes the smaller of its need and of their room.
use Prim.Native.Nat.{ℕ, zero, suc, ◌+◌, ◌-◌, ◌≤◌, ◌<◌, min}
use mathlib.Core.Path.{◌≡◌, refl}
use mathlib.Core.Logic.{⊎_elim}
use mathlib.Core.Bool.{true}
use mathlib.Core.List.{List, [], ◌∷◌, map}
use native.Mathlib.Omega.{arith}
use lib.ListN.{get_or, take}
use Rattle.lists.specs.Lists.{total}
use Rattle.lists.specs.Rows.{how_many, column}
use Rattle.lists.proofs.Tests.{bit_cases}
use Rattle.lists.proofs.Lists.{sum_take_suc, sum_ends}
use Rattle.task_shares.specs.Movers.{upper, lower}
use Rattle.assignment.proofs.Poured.{cut, rest, pour}
use Rattle.task_shares.proofs.Words.{upper_says, lower_says}

-- what it takes of the first p cores
pub cut_take : (n : ℕ) (rs : List ℕ) (p : ℕ) → total (take p (cut n rs)) ≡ min n (total (take p rs))
cut_take n [] zero = omega arith
cut_take n [] (suc p) = omega arith
cut_take n (r ∷ rs) zero = omega arith
cut_take n (r ∷ rs) (suc p) = omega (arith, cut_take (n - r) rs p)

-- what they have left
pub rest_take : (n : ℕ) (rs : List ℕ) (p : ℕ) → total (take p (rest n rs)) ≡ total (take p rs) - n
rest_take n [] zero = omega arith
rest_take n [] (suc p) = omega arith
rest_take n (r ∷ rs) zero = omega arith
rest_take n (r ∷ rs) (suc p) = omega (arith, rest_take (n - r) rs p)

-- the same of all cores
pub cut_sum : (n : ℕ) (rs : List ℕ) → total (cut n rs) ≡ min n (total rs)
cut_sum n [] = omega arith
cut_sum n (r ∷ rs) = omega (arith, cut_sum (n - r) rs)

pub rest_sum : (n : ℕ) (rs : List ℕ) → total (rest n rs) ≡ total rs - n
rest_sum n [] = omega arith
rest_sum n (r ∷ rs) = omega (arith, rest_sum (n - r) rs)

-- taken and left are what there was, on each core
cut_rest : (n : ℕ) (rs : List ℕ) (p : ℕ) → get_or (cut n rs) p 0 + get_or (rest n rs) p 0 ≡ get_or rs p 0
cut_rest n [] p = omega arith
cut_rest n (r ∷ rs) zero = omega arith
cut_rest n (r ∷ rs) (suc p) = cut_rest (n - r) rs p

-- pass two gives each task its whole weight, where there is room for all
pub pour_sums : (ws room : List ℕ) → total ws ≤ total room → map total (pour ws room) ≡ ws
pour_sums [] room h = refl
pour_sums (w ∷ ws) room h =
    let e : total (cut w room) ≡ w = omega (arith, cut_sum w room) in
    let ih : map total (pour ws (rest w room)) ≡ ws = pour_sums ws (rest w room) (omega (arith, rest_sum w room)) in
    λ i. e i ∷ ih i

-- and fills no core past its room
pub pour_column : (p : ℕ) (ws room : List ℕ) → column p (pour ws room) ≤ get_or room p 0
pour_column p [] room = omega arith
pour_column p (w ∷ ws) room = omega (arith, pour_column p ws (rest w room), cut_rest w room p)

module _ (p w : ℕ) (room : List ℕ) where
  -- an upper mover leaves no room below the core
  upper_means : upper p (cut w room) ≡ true → (0 < total (take p room)) × (total (take p room) < w)
  upper_means e =
      omega (
        arith,
        upper_says p (cut w room) e,
        cut_take w room p,
        cut_take w room (suc p),
        sum_take_suc (cut w room) p,
        sum_take_suc room p,
      )

  -- a lower mover leaves none up to the core
  lower_means : lower p (cut w room) ≡ true → (0 < total (take (suc p) room)) × (total (take (suc p) room) < w)
  lower_means e =
      omega (
        arith,
        lower_says p (cut w room) e,
        cut_take w room (suc p),
        sum_take_suc (cut w room) p,
        sum_ends (cut w room) (suc p),
        cut_sum w room,
      )

-- so no task after it is upper there
pub pour_uppers : (p : ℕ) (ws room : List ℕ) → how_many (upper p) (pour ws room) ≤ min 1 (total (take p room))
pour_uppers p [] room = omega arith
pour_uppers p (w ∷ ws) room =
    ⊎_elim
    (λ h. omega (arith, pour_uppers p ws (rest w room), rest_take w room p, upper_means p w room h.0))
    (λ h. omega (arith, pour_uppers p ws (rest w room), rest_take w room p))
    (bit_cases (upper p (cut w room)))

-- nor lower
pub pour_lowers : (p : ℕ) (ws room : List ℕ) → how_many (lower p) (pour ws room) ≤ min 1 (total (take (suc p) room))
pour_lowers p [] room = omega arith
pour_lowers p (w ∷ ws) room =
    ⊎_elim
    (λ h. omega (arith, pour_lowers p ws (rest w room), rest_take w room (suc p), lower_means p w room h.0))
    (λ h. omega (arith, pour_lowers p ws (rest w room), rest_take w room (suc p)))
    (bit_cases (lower p (cut w room)))
