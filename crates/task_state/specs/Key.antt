-- Who goes first on a core.
use Rattle.std.specs.Prelude.{ℕ, ◌+◌, ◌-◌, Bool, cond, not, ◌&&◌, ltb, eqb}
use Rattle.planning.specs.declared.Line.{Line}
use Rattle.planning.specs.Plan.{row_of}
use Rattle.task_shares.specs.Movers.{upper, lower}
use Rattle.task_state.specs.declared.State.{State}
use Rattle.task_state.specs.State.{run_at}
use Rattle.task_state.specs.Due.{held}

-- the deadline of a task's oldest unfinished run
abbrev pub deadline_of : State → ℕ
deadline_of st = (run_at st 0).deadline.0

-- only a task's oldest unfinished run can be chosen, on its own core k, from 1, and not while it is held
abbrev pub waits : Line → State → ℕ → ℕ → Bool
waits ln st k x = ltb 0 st.live && eqb (run_at st 0).core k && not (held ln (run_at st 0) x)

-- who goes first, by the least key: an upper mover, then a lower one, then fixed tasks by earliest deadline
abbrev pub key_of : Line → State → ℕ → ℕ
key_of ln st k = cond (upper (k - 1) (row_of ln)) 0 (cond (lower (k - 1) (row_of ln)) 1 (2 + deadline_of st))
