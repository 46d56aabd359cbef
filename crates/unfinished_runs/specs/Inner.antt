-- For the contract of a private writer. It stands for no rule of documents 01 and 02.
use Rattle.std.specs.Prelude.{ℕ, cond, eqb}
use Rattle.task_state.specs.declared.State.{State}
use Rattle.task_state.specs.State.{run_at}
use Rattle.run_lengths.specs.declared.Work.{Work}
use Rattle.run_lengths.specs.Work.{length_at, number_at}
use Rattle.day_lines.specs.declared.Event.{Event}
use Rattle.day_lines.specs.declared.Event.TheVariants.{Unfinished}

-- the k-th unfinished run, from 0, of task i, from 1, as `runsLeft` tells it
abbrev pub run_left : State → Work → ℕ → ℕ → ℕ → Event
run_left st wk had i k =
    let x = run_at st k in
    Unfinished (record { core = x.core; task = i; run = number_at wk k }) x.deadline (cond (eqb k 0) had 0) (length_at wk k)
