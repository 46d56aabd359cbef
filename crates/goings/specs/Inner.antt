-- For the contracts of functions that only crates of ours call: what they ask. It stands for no rule of documents 01 and 02.
use Rattle.std.specs.Prelude.{ℕ, ◌≤◌, ◌<◌, ◌*◌, ◌≡◌, List, length, get_or}
use Rattle.units.specs.Limits.{cores_limit, tasks_limit, clock_limit}
use Rattle.goings.specs.Rows.{going_at}

-- m more ticks for the runs that have the first n cores: cores, tasks and ticks in their range
pub record Addable (hs gs : List ℕ) (n m : ℕ) : Type 0 where
  pub few : n ≤ cores_limit
  pub small : m ≤ clock_limit
  pub wide : length gs ≡ 3 * cores_limit
  pub long : length hs ≡ tasks_limit
  pub named : (p : ℕ) → p < n → (going_at gs p).task ≤ tasks_limit
  pub had : (i : ℕ) → get_or hs i 0 ≤ clock_limit
