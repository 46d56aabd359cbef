-- For the contracts of functions that only crates of ours call: what they ask. It stands for no rule of document 01.
use Rattle.std.specs.Prelude.{ℕ, ◌≤◌, ◌<◌}
use Rattle.units.specs.Limits.{clock_limit, runs_limit}
use Rattle.planning.specs.declared.Line.{Line}
use Rattle.planning.specs.Plan.{row_of}
use Rattle.turn.specs.Inner.{Turnable}
use Rattle.task_state.specs.declared.State.{State}
use Rattle.task_state.specs.Due.{release_at}

-- what a run more is asked of: counts and place that can be stepped, a place for the run, and numbers in their range
pub record Releasable (ln : Line) (st : State) (t : ℕ) : Type 0 where
  pub turn : Turnable ln.weight.0 st.place (row_of ln) st.counts
  pub room : st.live < runs_limit
  pub last : st.last.0 ≤ clock_limit
  pub released : release_at ln st t ≤ clock_limit
