-- Arrivals of which none is refused, and the first that is.
use Rattle.std.specs.Prelude.{ℕ, ◌+◌, ◌≤◌, ◌<◌, ◌≡◌, List}
use Rattle.planning.specs.declared.Plan.{Plan}
use Rattle.arrivals.specs.Arrivals.{arrivals_limit, arrival_time, arrival_task, arrival_length, arrival_cost, arrival_tests}

-- the first n arrivals: at most 4,096, each for a task of the table, with a length of 1 to its cost, and their times do not fall
pub record Fine (pl : Plan) (xs : List ℕ) (n : ℕ) : Type 0 where
  pub few : n ≤ arrivals_limit
  pub task_from : (k : ℕ) → k < n → 1 ≤ arrival_task xs k
  pub task_to : (k : ℕ) → k < n → arrival_task xs k ≤ pl.count
  pub some : (k : ℕ) → k < n → 1 ≤ arrival_length xs k
  pub fits : (k : ℕ) → k < n → arrival_length xs k ≤ arrival_cost pl xs k
  pub rising : (k : ℕ) → k + 1 < n → arrival_time xs k ≤ arrival_time xs (k + 1)

-- arrival k is the first of n that is refused, and by refusal r
pub record First (pl : Plan) (xs : List ℕ) (n r k : ℕ) : Type 0 where
  pub there : k < n
  pub gives : arrival_tests pl xs k ≡ r
  pub before : (j : ℕ) → j < k → arrival_tests pl xs j ≡ 0
