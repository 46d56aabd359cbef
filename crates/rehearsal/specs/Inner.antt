-- For the contracts of private functions: what they ask, and what stands at the stop. It stands for no rule of document 02.
use Rattle.std.specs.Prelude.{ℕ, ◌*◌, ◌≤◌, ◌<◌, ◌≡◌, true, List, length, get_or}
use Rattle.lists.specs.Lists.{zeros}
use Rattle.units.specs.Limits.{cores_limit, tasks_limit, clock_limit}
use Rattle.planning.specs.declared.Plan.{Plan}
use Rattle.planning.specs.Shape.{PlanShaped}
use Rattle.soundness.specs.Plan.{plan_sound}
use Rattle.arrivals.specs.Arrivals.{arrivals_in}
use Rattle.arrivals.specs.Fine.{Fine}
use Rattle.seats.specs.Seat.{seat, no_seat}
use Rattle.goings.specs.declared.Going.{Going}
use Rattle.goings.specs.Rows.{goings_in}
use Rattle.day_lines.specs.declared.Ran.{Ran}
use Rattle.day.specs.Desk.{state_of, work_of, desk_at}
use Rattle.rehearsal.specs.declared.steps.Desk.{Desk}

-- the run that has a core, from 1
abbrev pub on_core : ℕ → Going → Ran
on_core p g = record { core = p; task = g.task; run = g.run }

-- a sound plan, arrivals of which none is refused, and a stop within the clock's limit
pub record Rehearsable (pl : Plan) (xs : List ℕ) (stop : ℕ) : Type 0 where
  pub shaped : PlanShaped pl
  pub sound : plan_sound pl ≡ true
  pub fine : Fine pl xs (arrivals_in xs)
  pub upto : stop ≤ clock_limit

-- numbers for all fronts, no tick had, and no run that has a core
pub record Blank (fs hs gs : List ℕ) : Type 0 where
  pub fronts : length fs ≡ 7 * tasks_limit
  pub had : hs ≡ zeros tasks_limit
  pub goings : gs ≡ zeros (3 * cores_limit)

-- what the code holds at the stop is the model's desk
pub record Stood (pl : Plan) (xs : List ℕ) (stop : ℕ) (r : Desk) (hs gs : List ℕ) : Type 0 where
  pub seated : (i : ℕ) → i < tasks_limit → get_or r.seats i no_seat ≡ seat (state_of (desk_at pl xs stop) i) (work_of (desk_at pl xs stop) i)
  pub had : hs ≡ (desk_at pl xs stop).had
  pub going : goings_in gs ≡ (desk_at pl xs stop).going
  pub long : length hs ≡ tasks_limit
  pub wide : length gs ≡ 3 * cores_limit
