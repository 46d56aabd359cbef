-- For the contracts of functions that only crates of ours call: what they ask. It stands for no rule of document 01.
use Rattle.std.specs.Prelude.{ℕ, ◌+◌, ◌*◌, ◌≤◌, ◌<◌, List, length, get_or}
use Rattle.std.specs.Int.{◌∣◌}
use Rattle.units.specs.Limits.{tasks_limit, common_limit}

-- a table that has passed tests 2 to 5, with its common period l
pub record Weighable (l : ℕ) (xs : List ℕ) : Type 0 where
  pub short : length xs ≤ 2 * tasks_limit
  pub within : l ≤ common_limit
  pub some : (k : ℕ) → 2 * k + 1 < length xs → 0 < get_or xs (2 * k + 1) 0
  pub fits : (k : ℕ) → 2 * k + 1 < length xs → get_or xs (2 * k) 0 ≤ get_or xs (2 * k + 1) 0
  pub divides : (k : ℕ) → 2 * k + 1 < length xs → get_or xs (2 * k + 1) 0 ∣ l
