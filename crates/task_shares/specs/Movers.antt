-- Fixed tasks and movers, by a task's row of shares. Cores are counted from 0.
use Rattle.std.specs.Prelude.{ℕ, Bool, ◌&&◌, not, List, ltb, eqb, get_or}
use Rattle.lists.specs.Lists.{parts, first_part}

-- the task has a share on core p
abbrev pub has : ℕ → List ℕ → Bool
has p row = ltb 0 (get_or row p 0)

-- with one positive share it is fixed
abbrev pub fixed : List ℕ → Bool
fixed row = eqb (parts row) 1

-- with more it moves
abbrev pub moves : List ℕ → Bool
moves row = ltb 1 (parts row)

-- its first core is the lowest numbered
abbrev pub first_core : List ℕ → ℕ
first_core row = first_part row

-- a fixed task of core p
abbrev pub fixed_on : ℕ → List ℕ → Bool
fixed_on p row = fixed row && has p row

-- a mover on core p
abbrev pub moves_on : ℕ → List ℕ → Bool
moves_on p row = moves row && has p row

-- a mover is lower on its first core
abbrev pub lower : ℕ → List ℕ → Bool
lower p row = moves_on p row && eqb (first_core row) p

-- and upper on any other
abbrev pub upper : ℕ → List ℕ → Bool
upper p row = moves_on p row && not (eqb (first_core row) p)
