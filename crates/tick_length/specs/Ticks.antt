-- Document 02, R-1: nanoseconds as ticks of a tick length. Costs round up, periods round down.
use Rattle.std.specs.Prelude.{ℕ, ◌/◌, Bool, ◌&&◌, ltb, leb}
use Rattle.arith.specs.Ceiling.{ceil_div}

-- the longest tick, in nanoseconds
abbrev pub tick_limit : ℕ
tick_limit = 1000000

-- a tick length is in range, 1 to 1,000,000
abbrev pub tick_in : ℕ → Bool
tick_in tick = ltb 0 tick && leb tick tick_limit

-- a cost in ticks, rounded up
abbrev pub cost_ticks : ℕ → ℕ → ℕ
cost_ticks tick ns = ceil_div ns tick

-- a period in ticks, rounded down
abbrev pub period_ticks : ℕ → ℕ → ℕ
period_ticks tick ns = ns / tick
