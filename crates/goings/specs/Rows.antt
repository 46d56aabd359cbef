-- The runs that have the cores, in a list of three numbers a core.
use Rattle.std.specs.Prelude.{ℕ, ◌+◌, ◌*◌, List, get_or, set}
use Rattle.lists.specs.Tabled.{tabled}
use Rattle.units.specs.Limits.{cores_limit}
use Rattle.units.specs.Units.{ticks}
use Rattle.goings.specs.declared.Going.{Going}

-- core p's, from 0
abbrev pub going_at : List ℕ → ℕ → Going
going_at xs p = record { task = get_or xs (3 * p) 0; run = get_or xs (3 * p + 1) 0; from = ticks (get_or xs (3 * p + 2) 0) }

-- all cores'
unfoldable pub goings_in : List ℕ → List Going
goings_in xs = tabled (going_at xs) cores_limit

-- core p has another
abbrev pub put_going : List ℕ → ℕ → Going → List ℕ
put_going xs p g = set (set (set xs (3 * p) g.task) (3 * p + 1) g.run) (3 * p + 2) g.from.0
