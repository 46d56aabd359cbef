-- The lengths of a record's arrays: a list of the definitions has any length, an array of the code its own. Tasks are counted from 0.
use Rattle.std.specs.Prelude.{ℕ, ◌<◌, ◌≡◌, true, length}
use Rattle.units.specs.Limits.{tasks_limit}
use Rattle.task_state.specs.Shape.{Shaped as StateShaped}
use Rattle.dispatch.specs.declared.Record.{Record}
use Rattle.dispatch.specs.Record.{state_at}
use Rattle.dispatch.specs.Sound.{sound_of}
use Rattle.planning.specs.Shape.{PlanShaped}

-- the same of a record, with sixty-four states of sixteen counts and eight deadlines and cores
pub record Shaped (r : Record) : Type 0 where
  pub plan : PlanShaped r.plan
  pub states : length r.states ≡ tasks_limit
  pub each : (i : ℕ) → i < tasks_limit → StateShaped (state_at r i)

-- a record that the code can hold, and that is sound
pub record Good (r : Record) : Type 0 where
  pub shaped : Shaped r
  pub sound : sound_of r ≡ true
