-- What the shares of a plan keep, whoever drew it: a table with a row for each task, weights ws, m cores of l units.
use Rattle.std.specs.Prelude.{ℕ, ◌≤◌, ◌<◌, ◌≡◌, List, map}
use Rattle.lists.specs.Lists.{total}
use Rattle.lists.specs.Rows.{how_many, column, top}
use Rattle.task_shares.specs.Movers.{fixed_on, moves_on, lower}

-- the shares of one core
pub record CoreKept (l p : ℕ) (tab : List (List ℕ)) : Type 0 where
  -- no core exceeds L
  pub within : column p tab ≤ l
  -- no core has more than two movers
  pub few : how_many (moves_on p) tab ≤ 2
  -- where it has two it is the first core of exactly one
  pub first : how_many (moves_on p) tab ≡ 2 → how_many (lower p) tab ≡ 1
  -- where a mover has a share, some fixed task there weighs at least as much (the heaviest of none weighs 0)
  pub guarded : top (moves_on p) tab ≤ top (fixed_on p) tab

-- the shares of a plan
pub record Structure (m l : ℕ) (ws : List ℕ) (tab : List (List ℕ)) : Type 0 where
  -- the shares of each task sum to its weight
  pub sums : map total tab ≡ ws
  -- on each of the cores
  pub cores : (p : ℕ) → p < m → CoreKept l p tab
  -- only the m cores have any
  pub beyond : (p : ℕ) → m ≤ p → column p tab ≡ 0
