-- Lateness bounds, in ticks: document 003's theorems 1 and 2, every bound rounded up before it is used in another.
-- A mover's reach is its bound and its period together, R = D + T, so that s × (D + 2T) is s × (R + T). Cores are counted from 0.
use Rattle.std.specs.Prelude.{ℕ, zero, suc, ◌+◌, ◌*◌, ◌-◌, Bool, cond, List, [], ◌∷◌, ◌++◌, map, get_or, ℤ, pos}
use Rattle.std.proofs.Math.IntN.{sub_ℕ}
use Rattle.units.specs.Limits.{cores_limit}
use Rattle.lists.specs.Lists.{val}
use Rattle.arith.specs.Ceiling.{ceil_div}
use Rattle.task_shares.specs.Movers.{moves, moves_on, first_core, upper, lower}
use Rattle.planning.specs.declared.Line.{Line}
use Rattle.planning.specs.declared.Plan.{Plan}
use Rattle.planning.specs.Plan.{empty_line, row_of}

-- the first line that passes a test, the empty line if none does
abbrev pub first : (Line → Bool) → List Line → Line
first f [] = empty_line
first f (ln ∷ lns) = cond (f ln) ln (first f lns)

-- the upper mover of core p
abbrev pub upper_on : ℕ → List Line → Line
upper_on p lns = first (λ ln. upper p (row_of ln)) lns

-- its lower mover, whose first core it is
abbrev pub lower_on : ℕ → List Line → Line
lower_on p lns = first (λ ln. lower p (row_of ln)) lns

-- a number of each mover on core p, summed
abbrev pub over_movers : ℕ → (Line → ℕ) → List Line → ℕ
over_movers p g [] = 0
over_movers p g (ln ∷ lns) = val (moves_on p (row_of ln)) (g ln) + over_movers p g lns

-- a task's share on core p
abbrev pub share_on : ℕ → Line → ℕ
share_on p ln = get_or (row_of ln) p 0

-- a mover's reach, from the reaches of movers by their first core
abbrev pub reach_of : List ℕ → Line → ℕ
reach_of rs ln = get_or rs (first_core (row_of ln)) 0

-- s × (D + 2T) of a mover on core p
abbrev pub push : List ℕ → ℕ → Line → ℕ
push rs p ln = share_on p ln * (reach_of rs ln + ln.period.0)

-- a mover's reach: (s × (D_h + 2T_h) + L × (2C_h + C)) / (L − s), rounded up, for the upper mover h of its first core p;
-- with no h, the empty line, it is C
unfoldable pub reach_on : ℕ → List ℕ → ℕ → Line → Line → ℕ
reach_on l rs p h ln = ceil_div (push rs p h + l * (2 * h.cost.0 + ln.cost.0)) (l - share_on p h)

-- the reaches of the movers whose first core is below n, by rising first core
unfoldable pub reaches : ℕ → List Line → ℕ → List ℕ
reaches l lns zero = []
reaches l lns (suc p) = reaches l lns p ++ (reach_on l (reaches l lns p) p (upper_on p lns) (lower_on p lns) ∷ [])

-- the reaches of a plan's movers
abbrev pub plan_reaches : Plan → List ℕ
plan_reaches pl = reaches pl.common pl.lines cores_limit

-- a fixed task's bound: the sum over its core's movers of s × (D + 2T) + L × 2C, divided by L less their shares, rounded up
unfoldable pub fixed_late : ℕ → List ℕ → List Line → ℕ → ℕ
fixed_late l rs lns p =
    ceil_div (over_movers p (λ ln. push rs p ln + l * (2 * ln.cost.0)) lns)
    (l - over_movers p (share_on p) lns)

-- a task's bound: a mover's reach less its period, or a fixed task's
unfoldable pub late : ℕ → List ℕ → List Line → Line → ℤ
late l rs lns ln = cond (moves (row_of ln)) (sub_ℕ (reach_of rs ln) ln.period.0) (pos (fixed_late l rs lns (first_core (row_of ln))))

-- the bounds of a plan's tasks
unfoldable pub lates_of : Plan → List ℤ
lates_of pl = map (late pl.common (reaches pl.common pl.lines cores_limit) pl.lines) pl.lines
