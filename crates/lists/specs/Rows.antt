-- A table of numbers: a row for each task, in it a number for each core.
use Rattle.std.specs.Prelude.{ℕ, ◌+◌, max, Bool, List, [], ◌∷◌, get_or}
use Rattle.lists.specs.Lists.{total, bit, val}

-- a number of each row, joined by an operation, 0 of none
abbrev pub fold : (ℕ → ℕ → ℕ) → (List ℕ → ℕ) → List (List ℕ) → ℕ
fold op g [] = 0
fold op g (r ∷ rs) = op (g r) (fold op g rs)

-- how many rows pass a test
abbrev pub how_many : (List ℕ → Bool) → List (List ℕ) → ℕ
how_many f rs = fold ◌+◌ (λ r. bit (f r)) rs

-- what all rows have on core p
abbrev pub column : ℕ → List (List ℕ) → ℕ
column p rs = fold ◌+◌ (λ r. get_or r p 0) rs

-- what the rows that pass a test have on core p
abbrev pub column_of : (List ℕ → Bool) → ℕ → List (List ℕ) → ℕ
column_of f p rs = fold ◌+◌ (λ r. val (f r) (get_or r p 0)) rs

-- the largest sum of a row that passes a test, 0 if none does
abbrev pub top : (List ℕ → Bool) → List (List ℕ) → ℕ
top f rs = fold max (λ r. val (f r) (total r)) rs
