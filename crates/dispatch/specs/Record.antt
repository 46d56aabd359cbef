-- The dispatcher's record: a plan, the clock, and what each task is at. Tasks are counted from 0 here.
use Rattle.std.specs.Prelude.{ℕ, List, get_or, set, replicate, Result, Result, Ok, Err}
use Rattle.units.specs.Limits.{tasks_limit}
use Rattle.units.specs.Units.{ticks}
use Rattle.planning.specs.declared.Line.{Line}
use Rattle.planning.specs.declared.Plan.{Plan}
use Rattle.units.specs.Refusals.{Refusal, taken, told}
use Rattle.units.specs.declared.refusal.Refusal.{Refusal as Refused}
use Rattle.planning.specs.Plan.{no_line, empty_plan, plan_of}
use Rattle.task_state.specs.declared.State.{State}
use Rattle.task_state.specs.State.{fresh_state, no_state}
use Rattle.dispatch.specs.declared.Record.{Record}

-- the record of a plan: clock 0 and no runs
unfoldable pub record_of : Plan → Record
record_of pl = record { plan = pl; clock = ticks 0; states = replicate tasks_limit fresh_state }

-- the refusal and the empty record, or none and the fresh record of the plan
pub record Fresh : Type 0 where
  pub refusal : Refusal
  pub next : Record

-- planning: the first refusal that applies and the empty record, or none and a fresh record
unfoldable pub fresh_of : ℕ → List ℕ → Fresh
fresh_of m xs = record { refusal = (plan_of m xs).refusal; next = record_of (plan_of m xs).plan }

-- what the code's answer tells
abbrev pub fresh_told : Result Record Refused → Fresh
fresh_told (Ok r) = record { refusal = taken; next = r }
fresh_told (Err e) = record { refusal = told e; next = record_of empty_plan }

-- task i's line
abbrev pub line_at : Record → ℕ → Line
line_at r i = get_or r.plan.lines i no_line

-- and its state
abbrev pub state_at : Record → ℕ → State
state_at r i = get_or r.states i no_state

-- the record with task i's state changed, at time t
abbrev pub moved : Record → ℕ → State → ℕ → Record
moved r i st t = record { plan = r.plan; clock = ticks t; states = set r.states i st }
