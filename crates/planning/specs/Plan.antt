-- A plan: cores M, the common period L, the tasks, and a line for each of sixty-four tasks.
use Rattle.std.specs.Prelude.{ℕ, ◌-◌, ◌/◌, cond, List, [], ◌∷◌, ◌++◌, map, eqb, length, replicate, Result, Ok, Err}
use Rattle.units.specs.Limits.{cores_limit, tasks_limit}
use Rattle.units.specs.Units.{share, duration, nums, units}
use Rattle.lists.specs.Lists.{zeros}
use Rattle.arith.specs.Period.{periods, common}
use Rattle.admission.specs.Weight.{weights, padded}
use Rattle.admission.specs.Admission.{plan_refusal}
use Rattle.units.specs.Refusals.{taken, told}
use Rattle.units.specs.declared.refusal.Refusal.{Refusal as Refused}
use Rattle.assignment.specs.Passes.{shares_of, rooms}
use Rattle.units.specs.Refusals.{Refusal}
use Rattle.planning.specs.declared.Line.{Line}
use Rattle.planning.specs.declared.Plan.{Plan}

-- a task's line: cost, period, weight and shares
abbrev pub line : ℕ → ℕ → ℕ → List ℕ → Line
line c t w row = record { cost = duration c; period = duration t; weight = share w; shares = units row }

-- the line of no task: all numbers 0
unfoldable pub empty_line : Line
empty_line = line 0 0 0 (zeros cores_limit)

-- what stands past the last line
abbrev pub no_line : Line
no_line = line 0 0 0 []

-- the lines of a table, with its weights and rows of shares
abbrev pub lines_of : List ℕ → List ℕ → List (List ℕ) → List Line
lines_of [] ws rows = []
lines_of (c ∷ []) ws rows = []
lines_of (c ∷ t ∷ xs) [] rows = []
lines_of (c ∷ t ∷ xs) (w ∷ ws) [] = []
lines_of (c ∷ t ∷ xs) (w ∷ ws) (r ∷ rows) = line c t w r ∷ lines_of xs ws rows

-- a line for each of sixty-four tasks; those past the last task are empty
abbrev pub padded_lines : List Line → List Line
padded_lines ls = ls ++ replicate (tasks_limit - length ls) empty_line

-- the empty plan: all numbers 0
unfoldable pub empty_plan : Plan
empty_plan = record { cores = 0; common = 0; count = 0; lines = replicate tasks_limit empty_line }

-- the plan of a table that is taken: m cores, common period l, and a weight for each of sixty-four tasks
unfoldable pub plan_for : ℕ → ℕ → List ℕ → List ℕ → Plan
plan_for m l ws xs = record {
  cores = m;
  common = l;
  count = length xs / 2;
  lines = padded_lines (lines_of xs ws (shares_of ws (rooms m l)));
}

-- the refusal and the empty plan, or none and the plan
pub record Planned : Type 0 where
  pub refusal : Refusal
  pub plan : Plan

-- a refusal and the empty plan
unfoldable pub refused_plan : Refusal → Planned
refused_plan r = record { refusal = r; plan = empty_plan }

-- no refusal and a plan
unfoldable pub taken_plan : Plan → Planned
taken_plan pl = record { refusal = taken; plan = pl }

-- planning: the first refusal that applies, or the plan
unfoldable pub plan_of : ℕ → List ℕ → Planned
plan_of m xs =
    cond (eqb (plan_refusal m xs).no 0)
    (taken_plan (plan_for m (common (periods xs)) (padded (weights (common (periods xs)) xs)) xs))
    (refused_plan (plan_refusal m xs))

-- what the code's answer tells
abbrev pub plan_told : Result Plan Refused → Planned
plan_told (Ok pl) = taken_plan pl
plan_told (Err r) = refused_plan (told r)

-- a line's row of shares
abbrev pub row_of : Line → List ℕ
row_of ln = nums ln.shares

-- a plan's table of shares
abbrev pub shares_table : Plan → List (List ℕ)
shares_table pl = map row_of pl.lines

-- a plan's weights
abbrev pub plan_weights : Plan → List ℕ
plan_weights pl = map (λ (ln : Line). ln.weight.0) pl.lines
