-- For the contracts of private functions alone. They stand for no rule of document 02.
use Rattle.std.specs.Prelude.{ℕ, ◌≤◌, ◌≡◌, true, cond, ltb}
use Rattle.units.specs.Limits.{clock_limit}
use Rattle.planning.specs.declared.Plan.{Plan}
use Rattle.planning.specs.Shape.{PlanShaped}
use Rattle.soundness.specs.Plan.{plan_sound}

-- a sound plan, and a stop within the clock's limit
pub record Stoppable (pl : Plan) (stop : ℕ) : Type 0 where
  pub shaped : PlanShaped pl
  pub sound : plan_sound pl ≡ true
  pub upto : stop ≤ clock_limit

-- how many bytes a piece has, where so many are left and the buffer has room for so many
unfoldable pub piece_length : ℕ → ℕ → ℕ
piece_length left room = cond (ltb left room) left room
