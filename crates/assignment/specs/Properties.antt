-- What the properties of document 003 and the halves of document 01 speak of, in a table of shares with a row for each task. Tasks and cores are from 0.
use Rattle.std.specs.Prelude.{ℕ, ◌+◌, ◌*◌, ◌≤◌, List, [], get_or}
use Rattle.lists.specs.Lists.{total, val, seek}
use Rattle.lists.specs.Rows.{fold}
use Rattle.task_shares.specs.Movers.{fixed_on, lower, upper}

-- task i's row
abbrev pub row_at : List (List ℕ) → ℕ → List ℕ
row_at tab i = get_or tab i []

-- its weight
abbrev pub row_weight : List (List ℕ) → ℕ → ℕ
row_weight tab i = total (row_at tab i)

-- its share on core p
abbrev pub row_share : List (List ℕ) → ℕ → ℕ → ℕ
row_share tab i p = get_or (row_at tab i) p 0

-- the weights of the fixed tasks of core p, together
abbrev pub fixed_load : ℕ → List (List ℕ) → ℕ
fixed_load p tab = fold ◌+◌ (λ r. val (fixed_on p r) (total r)) tab

-- the shares of the movers that a search finds on core p (0 where it finds none)
pub record Halves (l p : ℕ) (tab : List (List ℕ)) : Type 0 where
  pub one : 2 * row_share tab (seek (upper p) tab) p ≤ l
  pub two : 3 * (row_share tab (seek (upper p) tab) p + row_share tab (seek (lower p) tab) p) ≤ 2 * l
