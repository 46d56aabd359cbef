-- What a task's own state is tested for: 0, or the refusal's number.
use Rattle.std.specs.Prelude.{ℕ}
use Rattle.planning.specs.declared.Line.{Line}
use Rattle.call_tests.specs.Tests.{release_tests as release_no, finish_tests as finish_no}
use Rattle.task_state.specs.declared.State.{State}
use Rattle.task_state.specs.State.{run_at}
use Rattle.task_state.specs.Due.{release_at, held}

-- a release at time t: 12 for its release time, then 10
abbrev pub release_tests : Line → State → ℕ → ℕ
release_tests ln st t = release_no (release_at ln st t) st.live

-- a finish at time t: 11, without a run or where the oldest is held
abbrev pub finish_tests : Line → State → ℕ → ℕ
finish_tests ln st t = finish_no st.live (held ln (run_at st 0) t)
