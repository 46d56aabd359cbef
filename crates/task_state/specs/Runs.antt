-- A task's runs: one more, and the oldest ended.
use Rattle.std.specs.Prelude.{ℕ, ◌+◌, ◌-◌, [], ◌∷◌, ◌++◌, drop, set}
use Rattle.units.specs.Units.{ticks}
use Rattle.planning.specs.declared.Line.{Line}
use Rattle.planning.specs.Plan.{row_of}
use Rattle.turn.specs.declared.Turn.{Turn}
use Rattle.turn.specs.Turn.{turn_of}
use Rattle.task_state.specs.declared.State.{State}
use Rattle.task_state.specs.Due.{due_after, release_at}
use Rattle.task_state.specs.declared.runs.Taken.{Taken}

-- the turn of a task's next run
abbrev pub turn_at : Line → State → Turn
turn_at ln st = turn_of ln.weight.0 st.place (row_of ln) st.counts

-- the task after a run whose release time is x: one run more, counted in the turn cycle
unfoldable pub with_run : Line → State → ℕ → State
with_run ln st x = record {
  last = ticks x;
  deadlines = set st.deadlines st.live (ticks (x + due_after ln));
  counts = (turn_at ln st).counts;
  place = (turn_at ln st).place;
  cores = set st.cores st.live (turn_at ln st).core;
  live = st.live + 1;
  had = 1;
}

-- the deadline of a run whose release is called at time t
abbrev pub due_at : Line → State → ℕ → ℕ
due_at ln st t = release_at ln st t + due_after ln

-- the task after that release, with the run's core and deadline
unfoldable pub taken_run : Line → State → ℕ → Taken
taken_run ln st t = record { state = with_run ln st (release_at ln st t); core = (turn_at ln st).core; deadline = ticks (due_at ln st t) }

-- the task without its oldest run: the others move up
unfoldable pub without_run : State → State
without_run st = record {
  last = st.last;
  deadlines = drop 1 st.deadlines ++ (ticks 0 ∷ []);
  counts = st.counts;
  place = st.place;
  cores = drop 1 st.cores ++ (0 ∷ []);
  live = st.live - 1;
  had = st.had;
}
