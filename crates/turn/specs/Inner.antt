-- For the contracts of functions that only crates of ours call: what they ask. It stands for no rule of document 01.
use Rattle.std.specs.Prelude.{ℕ, ◌≤◌, ◌<◌, ◌≡◌, List}
use Rattle.units.specs.Limits.{common_limit}
use Rattle.lists.specs.Lists.{total}

-- what the turn step is asked of: shares that sum to the weight, counts that sum to a place below it
pub record Turnable (w t : ℕ) (ss ns : List ℕ) : Type 0 where
  pub small : w ≤ common_limit
  pub below : t < w
  pub shares : total ss ≡ w
  pub counts : total ns ≡ t
