-- The common period L, the least common multiple of all periods, kept within its limit.
use Rattle.std.specs.Prelude.{ℕ, suc, ◌≤◌, ◌<◌, Result, Ok, Err, cond, List, [], ◌∷◌, ltb, length, take}
use Rattle.units.specs.Limits.{common_limit}
use Rattle.arith.specs.Divisor.{lcm}

-- the periods of a table, cost then period for each task
abbrev pub periods : List ℕ → List ℕ
periods [] = []
periods (c ∷ []) = []
periods (c ∷ t ∷ xs) = t ∷ periods xs

-- the common period of these periods and of a common period l before them
abbrev pub common_from : ℕ → List ℕ → ℕ
common_from l [] = l
common_from l (t ∷ ts) = common_from (lcm l t) ts

-- the common period
unfoldable pub common : List ℕ → ℕ
common ts = common_from 1 ts

-- the same within the limit, or the first task, from k, whose period takes the common period of the tasks so far over it
abbrev pub period_from : ℕ → ℕ → List ℕ → Result ℕ ℕ
period_from l k [] = Ok l
period_from l k (t ∷ ts) = cond (ltb common_limit (lcm l t)) (Err k) (period_from (lcm l t) (suc k) ts)

-- the common period within its limit, or the task, from 1, that takes it over
unfoldable pub period_of : List ℕ → Result ℕ ℕ
period_of ts = period_from 1 1 ts

-- k is the first of these tasks, from 1, whose period takes the common period of the tasks so far over the limit
pub record TakesOver (ts : List ℕ) (k : ℕ) : Type 0 where
  pub from : 1 ≤ k
  pub to : k ≤ length ts
  pub before : (j : ℕ) → j < k → common (take j ts) ≤ common_limit
  pub over : common_limit < common (take k ts)
