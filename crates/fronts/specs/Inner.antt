-- For the contract of a function that only crates of ours call: what it asks. It stands for no rule of documents 01 and 02.
use Rattle.std.specs.Prelude.{◌+◌, ◌≤◌, ◌<◌}
use Rattle.units.specs.Limits.{cores_limit, clock_limit, period_limit}
use Rattle.planning.specs.declared.Line.{Line}
use Rattle.task_state.specs.declared.State.{State}
use Rattle.task_state.specs.State.{run_at}
use Rattle.task_state.specs.Key.{deadline_of}
use Rattle.run_lengths.specs.declared.Work.{Work}

-- an oldest run's core and deadline in their range, where there is one, and a number for the next run
pub record Frontable (ln : Line) (st : State) (wk : Work) : Type 0 where
  pub placed : 0 < st.live → 0 < (run_at st 0).core
  pub here : 0 < st.live → (run_at st 0).core ≤ cores_limit
  pub due : 0 < st.live → deadline_of st ≤ clock_limit + period_limit
  pub few : wk.ended ≤ clock_limit
