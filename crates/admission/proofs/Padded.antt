-- The weights with zeros after them, one for each of sixty-four tasks.
use Prim.Native.Nat.{ℕ, zero, suc, ◌-◌, ◌≤◌, ◌<◌}
use mathlib.Core.Path.{◌≡◌, refl}
use mathlib.Core.List.{List, [], ◌∷◌, ◌++◌}
use native.Mathlib.Omega.{arith}
use lib.ListN.{length, get_or, length-append, length-replicate}
use Rattle.units.specs.Limits.{tasks_limit}
use Rattle.lists.specs.Lists.{zeros, total, most}
use Rattle.lists.proofs.Lists.{zeros_at, zeros_sum, zeros_most}
use Rattle.admission.specs.Weight.{padded}

-- zeros add nothing
sum_zeros : (ws : List ℕ) (n : ℕ) → total (ws ++ zeros n) ≡ total ws
sum_zeros [] n = zeros_sum n
sum_zeros (w ∷ ws) n = omega (arith, sum_zeros ws n)

-- and none is the largest
pub most_zeros : (ws : List ℕ) (n : ℕ) → most (ws ++ zeros n) ≡ most ws
most_zeros [] n = zeros_most n
most_zeros (w ∷ ws) n = omega (arith, most_zeros ws n)

-- the number at a place stays
at_zeros : (ws : List ℕ) (n k : ℕ) → get_or (ws ++ zeros n) k 0 ≡ get_or ws k 0
at_zeros [] n k = zeros_at n k
at_zeros (w ∷ ws) n zero = refl
at_zeros (w ∷ ws) n (suc k) = at_zeros ws n k

module _ (ws : List ℕ) where
  -- the sum is that of the weights
  pub padded_sum : total (padded ws) ≡ total ws
  padded_sum = sum_zeros ws (tasks_limit - length ws)

  -- so is the largest
  pub padded_most : most (padded ws) ≡ most ws
  padded_most = most_zeros ws (tasks_limit - length ws)

  -- and the weight of each task
  pub padded_at : (k : ℕ) → get_or (padded ws) k 0 ≡ get_or ws k 0
  padded_at = at_zeros ws (tasks_limit - length ws)

  -- sixty-four in all
  pub padded_length : length ws ≤ tasks_limit → length (padded ws) ≡ tasks_limit
  padded_length h = simp (length-append, length-replicate) (omega arith)

-- a number that none exceeds is not exceeded by the largest
pub most_within : (l : ℕ) (ws : List ℕ) → ((k : ℕ) → k < length ws → get_or ws k 0 ≤ l) → most ws ≤ l
most_within l [] h = omega arith
most_within l (w ∷ ws) h = omega (arith, h 0 (omega arith), most_within l ws (λ k b. h (suc k) (omega arith)))
