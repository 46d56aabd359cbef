-- The rules of soundness for one task's state, document 01, "Refusal numbers". Cores of runs are from 1.
use Rattle.std.specs.Prelude.{ℕ, ◌+◌, ◌-◌, Bool, cond, ◌&&◌, ◌||◌, ltb, leb, eqb, get_or}
use Rattle.units.specs.Limits.{cores_limit, clock_limit, runs_limit}
use Rattle.lists.specs.Lists.{total}
use Rattle.planning.specs.declared.Line.{Line}
use Rattle.planning.specs.Plan.{row_of}
use Rattle.lists.specs.Below.{all_below}
use Rattle.stored_runs.specs.declared.Run.{Run}
use Rattle.stored_runs.specs.Run.{run_empty}
use Rattle.task_state.specs.declared.State.{State}
use Rattle.task_state.specs.State.{run_at}
use Rattle.task_state.specs.Due.{due_after}

-- a stored run's core is one where its task has a share, and its deadline at most the clock's limit plus T
abbrev pub run_sound : Line → Run → Bool
run_sound ln run =
    ltb 0 run.core && leb run.core cores_limit
    && ltb 0 (get_or (row_of ln) (run.core - 1) 0)
    && leb run.deadline.0 (clock_limit + due_after ln)

-- the rule for the k-th run: sound if it is unfinished, else empty
abbrev pub run_rule : Line → State → ℕ → Bool
run_rule ln st k = cond (ltb k st.live) (run_sound ln (run_at st k)) (run_empty (run_at st k))

-- a task has 0 to 8 unfinished runs, and each is sound
abbrev pub runs_sound : Line → State → Bool
runs_sound ln st = leb st.live runs_limit && all_below runs_limit (λ k. run_rule ln st k)

-- the turn counts sum to the place in the turn cycle, which is below w
abbrev pub turn_sound : Line → State → Bool
turn_sound ln st = eqb (total st.counts) st.place && ltb st.place ln.weight.0

-- the flag is 0 or 1; a last release is within the clock's range, and 0 where there was none
abbrev pub last_sound : State → Bool
last_sound st = leb st.had 1 && leb st.last.0 clock_limit && (eqb st.had 1 || eqb st.last.0 0)

-- the rules for a task in use
abbrev pub state_sound : Line → State → Bool
state_sound ln st = runs_sound ln st && turn_sound ln st && last_sound st

-- no run stands
abbrev pub runs_empty : State → Bool
runs_empty st = all_below runs_limit (λ k. run_empty (run_at st k))

-- past the N tasks all numbers are 0
abbrev pub state_empty : State → Bool
state_empty st =
    eqb (total st.counts) 0 && eqb st.place 0 && eqb st.last.0 0 && eqb st.had 0 && eqb st.live 0
    && runs_empty st
