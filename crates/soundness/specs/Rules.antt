-- The rules of soundness that speak of a plan, document 01, "Refusal numbers", one by one. Cores are counted from 0.
use Rattle.std.specs.Prelude.{ℕ, Bool, ◌&&◌, ◌||◌, not, List, map, ltb, leb, eqb, take}
use Rattle.units.specs.Limits.{cores_limit, tasks_limit, period_limit, common_limit}
use Rattle.lists.specs.Lists.{total}
use Rattle.lists.specs.Rows.{how_many, column, top}
use Rattle.arith.specs.Period.{common}
use Rattle.admission.specs.Weight.{weight}
use Rattle.task_shares.specs.Movers.{fixed_on, moves_on, lower}
use Rattle.planning.specs.declared.Line.{Line}
use Rattle.planning.specs.declared.Plan.{Plan}
use Rattle.planning.specs.Plan.{row_of}

-- cores M, tasks N and the common period L are in their ranges
abbrev pub numbers_in : Plan → Bool
numbers_in pl =
    leb 1 pl.cores && leb pl.cores cores_limit
    && leb 1 pl.count && leb pl.count tasks_limit
    && leb 1 pl.common && leb pl.common common_limit

-- a task's cost is from 1 to its period, and its period within the limit
abbrev pub line_in : Line → Bool
line_in ln = leb 1 ln.cost.0 && leb ln.cost.0 ln.period.0 && leb ln.period.0 period_limit

-- its weight is C × L / T
abbrev pub weight_is : ℕ → Line → Bool
weight_is l ln = eqb ln.weight.0 (weight l ln.cost.0 ln.period.0)

-- its shares sum to its weight
abbrev pub shares_sum : Line → Bool
shares_sum ln = eqb (total (row_of ln)) ln.weight.0

-- the numbers past the N tasks are 0
abbrev pub line_empty : Line → Bool
line_empty ln = eqb ln.cost.0 0 && eqb ln.period.0 0 && eqb ln.weight.0 0 && eqb (total (row_of ln)) 0

-- L is the common period of its tasks
abbrev pub common_is : Plan → Bool
common_is pl = eqb pl.common (common (map (λ (ln : Line). ln.period.0) (take pl.count pl.lines)))

-- a core's shares sum to at most L, and only the M cores have any
abbrev pub core_within : ℕ → ℕ → List (List ℕ) → ℕ → Bool
core_within m l tab p = leb (column p tab) l && (ltb p m || eqb (column p tab) 0)

-- no core has more than two movers
abbrev pub few_movers : List (List ℕ) → ℕ → Bool
few_movers tab p = leb (how_many (moves_on p) tab) 2

-- two have it as first core of exactly one
abbrev pub one_first : List (List ℕ) → ℕ → Bool
one_first tab p = not (eqb (how_many (moves_on p) tab) 2) || eqb (how_many (lower p) tab) 1

-- on a core with a mover some fixed task weighs at least as much as each mover there (the heaviest of none weighs 0)
abbrev pub guarded : List (List ℕ) → ℕ → Bool
guarded tab p = leb (top (moves_on p) tab) (top (fixed_on p) tab)
