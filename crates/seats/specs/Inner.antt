-- For the contracts of functions that only crates of ours call: what they ask. It stands for no rule of documents 01 and 02.
use Rattle.std.specs.Prelude.{ℕ, ◌^◌, ◌≤◌, ◌<◌, ◌≡◌}
use Rattle.units.specs.Limits.{clock_limit}
use Rattle.planning.specs.declared.Line.{Line}
use Rattle.task_state.specs.declared.State.{State}
use Rattle.task_state.specs.Due.{release_at}
use Rattle.task_state.specs.Runs.{with_run, without_run}
use Rattle.task_state.specs.Tests.{release_tests}
use Rattle.task_state.specs.Key.{deadline_of}
use Rattle.task_state.specs.Inner.{Releasable}
use Rattle.run_lengths.specs.declared.Work.{Work}
use Rattle.run_lengths.specs.Work.{with_length, without_length}
use Rattle.fronts.specs.Inner.{Frontable}

-- an arrival's tests can be asked, and a run that passes them can be taken
pub record Arrivable (ln : Line) (st : State) (wk : Work) (t n : ℕ) : Type 0 where
  pub last : st.last.0 ≤ clock_limit
  pub now : Frontable ln st wk
  pub can : release_tests ln st t ≡ 0 → Releasable ln st t
  pub then : release_tests ln st t ≡ 0 → Frontable ln (with_run ln st (release_at ln st t)) (with_length wk st.live n)

-- there is a run, and numbers in their range
pub record Endable (ln : Line) (st : State) (wk : Work) (t : ℕ) : Type 0 where
  pub live : 0 < st.live
  pub time : t < 2 ^ 63
  pub due : deadline_of st < 2 ^ 63
  pub few : wk.ended < clock_limit
  pub then : Frontable ln (without_run st) (without_length wk)
