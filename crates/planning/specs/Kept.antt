-- What a plan keeps, whoever drew it: every number in its range, and the structure of its shares.
use Rattle.std.specs.Prelude.{ℕ, ◌≤◌, ◌<◌, ◌≡◌, get_or}
use Rattle.units.specs.Limits.{cores_limit, tasks_limit, period_limit, common_limit}
use Rattle.assignment.specs.Structure.{Structure}
use Rattle.planning.specs.declared.Plan.{Plan}
use Rattle.planning.specs.Plan.{empty_line, no_line, shares_table, plan_weights}

pub record PlanKept (pl : Plan) : Type 0 where
  pub cores_some : 0 < pl.cores
  pub cores_few : pl.cores ≤ cores_limit
  pub common_some : 0 < pl.common
  pub common_small : pl.common ≤ common_limit
  pub tasks_few : pl.count ≤ tasks_limit
  pub costs : (i : ℕ) → (get_or pl.lines i no_line).cost.0 ≤ period_limit
  pub periods : (i : ℕ) → (get_or pl.lines i no_line).period.0 ≤ period_limit
  pub past : (i : ℕ) → pl.count ≤ i → i < tasks_limit → get_or pl.lines i no_line ≡ empty_line
  pub structure : Structure pl.cores pl.common (plan_weights pl) (shares_table pl)
