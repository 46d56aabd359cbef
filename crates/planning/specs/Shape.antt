-- The lengths of a plan's arrays: a list of the definitions has any length, an array of the code its own. Tasks are counted from 0.
use Rattle.std.specs.Prelude.{ℕ, ◌<◌, ◌≡◌, length, get_or}
use Rattle.units.specs.Limits.{cores_limit, tasks_limit}
use Rattle.planning.specs.declared.Plan.{Plan}
use Rattle.planning.specs.Plan.{no_line}

-- sixty-four lines of sixteen shares
pub record PlanShaped (pl : Plan) : Type 0 where
  pub lines : length pl.lines ≡ tasks_limit
  pub shares : (i : ℕ) → i < tasks_limit → length (get_or pl.lines i no_line).shares ≡ cores_limit
