-- The lengths of a state's lists.
use Rattle.std.specs.Prelude.{◌≡◌, length}
use Rattle.units.specs.Limits.{cores_limit, runs_limit}
use Rattle.task_state.specs.declared.State.{State}

pub record Shaped (st : State) : Type 0 where
  pub deadlines : length st.deadlines ≡ runs_limit
  pub counts : length st.counts ≡ cores_limit
  pub cores : length st.cores ≡ runs_limit
