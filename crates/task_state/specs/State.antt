-- What a task is at: its last release time, its unfinished runs, its turn counts and their place.
use Rattle.std.specs.Prelude.{ℕ, zero, suc, List, [], ◌∷◌, ◌++◌, get_or, replicate}
use Rattle.units.specs.Limits.{cores_limit, runs_limit}
use Rattle.units.specs.Units.{ticks}
use Rattle.lists.specs.Lists.{zeros}
use Rattle.stored_runs.specs.declared.Run.{Run}
use Rattle.stored_runs.specs.Run.{run}
use Rattle.task_state.specs.declared.State.{State}

-- a task that has had no run
unfoldable pub fresh_state : State
fresh_state = record {
  last = ticks 0;
  deadlines = replicate runs_limit (ticks 0);
  counts = zeros cores_limit;
  place = 0;
  cores = zeros runs_limit;
  live = 0;
  had = 0;
}

-- what stands past the last state
abbrev pub no_state : State
no_state = record { last = ticks 0; deadlines = []; counts = []; place = 0; cores = []; live = 0; had = 0 }

-- a task's k-th unfinished run, oldest first, from 0
abbrev pub run_at : State → ℕ → Run
run_at st k = run (get_or st.cores k 0) (get_or st.deadlines k (ticks 0)).0

-- a task's first n runs, oldest first
abbrev pub first_runs : State → ℕ → List Run
first_runs st zero = []
first_runs st (suc n) = first_runs st n ++ (run_at st n ∷ [])

-- its unfinished runs
abbrev pub runs_of : State → List Run
runs_of st = first_runs st st.live
