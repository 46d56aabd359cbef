-- A record is sound, document 01, "Refusal numbers": its plan, its clock and each task's state. Tasks are counted from 0.
use Rattle.std.specs.Prelude.{ℕ, Bool, cond, ◌&&◌, List, ltb, leb, get_or}
use Rattle.units.specs.Limits.{tasks_limit, clock_limit}
use Rattle.lists.specs.Below.{all_below}
use Rattle.planning.specs.declared.Plan.{Plan}
use Rattle.planning.specs.Plan.{no_line}
use Rattle.soundness.specs.Plan.{plan_sound}
use Rattle.task_state.specs.declared.State.{State}
use Rattle.task_state.specs.State.{no_state}
use Rattle.state_rules.specs.Sound.{state_sound, state_empty}
use Rattle.dispatch.specs.declared.Record.{Record}

-- task i is in use and sound, or past the N tasks and empty
abbrev pub state_ok : Plan → List State → ℕ → Bool
state_ok pl sts i =
    cond (ltb i pl.count) (state_sound (get_or pl.lines i no_line) (get_or sts i no_state)) (state_empty (get_or sts i no_state))

-- the clock is within its range
abbrev pub clock_in : Record → Bool
clock_in r = leb r.clock.0 clock_limit

-- a sound record
unfoldable pub sound_of : Record → Bool
sound_of r = clock_in r && plan_sound r.plan && all_below tasks_limit (state_ok r.plan r.states)
