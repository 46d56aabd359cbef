-- When a task's runs are released and due, document 02, R-2.
use Rattle.std.specs.Prelude.{ℕ, Bool}
use Rattle.planning.specs.declared.Line.{Line}
use Rattle.stored_runs.specs.declared.Run.{Run}
use Rattle.release_times.specs.Times.{release_time, held_at}
use Rattle.task_state.specs.declared.State.{State}

-- how long after its release a run is due: T
abbrev pub due_after : Line → ℕ
due_after ln = ln.period.0

-- the release time of a run whose release is called at time t
abbrev pub release_at : Line → State → ℕ → ℕ
release_at ln st t = release_time st.had st.last.0 ln.period.0 t

-- a run is held at an instant x
abbrev pub held : Line → Run → ℕ → Bool
held ln run x = held_at (due_after ln) run.deadline.0 x
