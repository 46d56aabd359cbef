-- Weights: w = C × L / T, in units of 1/L core. A table is a list of numbers, cost then period for each task.
use Rattle.std.specs.Prelude.{ℕ, ◌*◌, ◌-◌, ◌/◌, List, [], ◌∷◌, ◌++◌, length}
use Rattle.units.specs.Limits.{tasks_limit}
use Rattle.lists.specs.Lists.{zeros}

-- the weight of a task of cost c and period t
abbrev pub weight : ℕ → ℕ → ℕ → ℕ
weight l c t = c * l / t

-- the weights of a table's tasks
abbrev pub weights : ℕ → List ℕ → List ℕ
weights l [] = []
weights l (c ∷ []) = []
weights l (c ∷ t ∷ xs) = weight l c t ∷ weights l xs

-- a number for each of sixty-four tasks; those past the last task are 0
abbrev pub padded : List ℕ → List ℕ
padded ws = ws ++ zeros (tasks_limit - length ws)
