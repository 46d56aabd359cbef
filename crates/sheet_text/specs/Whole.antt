-- Nanoseconds and ticks of a job, document 02, R-1: costs round up, periods round down, and no time is lost.
use Rattle.std.specs.Prelude.{ℕ, ◌+◌, ◌*◌, ◌≤◌, ◌<◌, ◌≡◌}
use Rattle.tick_length.specs.Ticks.{cost_ticks, period_ticks}
use Rattle.sheet_text.specs.Job.{Job}

-- a job's cost and period are whole ticks
pub record Whole (tick : ℕ) (j : Job) : Type 0 where
  pub cost : j.cost ≡ cost_ticks tick j.cost * tick
  pub period : j.period ≡ period_ticks tick j.period * tick

-- its cost in ticks is no less than its cost, and above it by less than a tick; its period falls by less than one, and does not grow
pub record NoneLost (tick : ℕ) (j : Job) : Type 0 where
  pub cost_covered : j.cost ≤ cost_ticks tick j.cost * tick
  pub cost_near : cost_ticks tick j.cost * tick < j.cost + tick
  pub period_near : j.period < period_ticks tick j.period * tick + tick
  pub period_kept : period_ticks tick j.period * tick ≤ j.period
