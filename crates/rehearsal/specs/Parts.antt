-- Parts of a rehearsal's steps, as its code takes them. They stand for no rule; `proofs` shows that they are the model's.
use Rattle.std.specs.Prelude.{ℕ, zero, suc, ◌+◌, Bool, cond, ◌&&◌, List, ltb, eqb, get_or}
use Rattle.planning.specs.declared.Line.{Line}
use Rattle.planning.specs.Plan.{no_line}
use Rattle.task_state.specs.State.{fresh_state}
use Rattle.arrivals.specs.Arrivals.{arrivals_in, arrival_time}
use Rattle.run_lengths.specs.Work.{fresh_work}
use Rattle.fronts.specs.Front.{front_of}
use Rattle.front_rows.specs.Rows.{put_front}
use Rattle.instants.specs.declared.Seen.{Seen}
use Rattle.instants.specs.Seen.{least_left}

-- when arrival k comes, if it comes before the stop; else the stop
unfoldable pub coming_at : List ℕ → ℕ → ℕ → ℕ
coming_at xs k stop = cond (ltb k (arrivals_in xs)) (cond (ltb (arrival_time xs k) stop) (arrival_time xs k) stop) stop

-- a run of task i, from 1, has had its length
abbrev pub done_by : ℕ → ℕ → ℕ → Bool
done_by i length had = ltb 0 i && eqb had length

-- the fronts of the first n tasks, that have had no run, in a list of numbers
unfoldable pub fresh_fronts : List ℕ → List Line → ℕ → List ℕ
fresh_fronts xs ls zero = xs
fresh_fronts xs ls (suc n) = put_front (fresh_fronts xs ls n) n (front_of (get_or ls n no_line) fresh_state fresh_work)

-- the next core, from 0, whose run may be done after a jump of at most v: n, where each of the n cores' choices has more left
unfoldable pub core_after : List Seen → ℕ → ℕ → ℕ
core_after ss v n = cond (ltb v (least_left ss (v + 1) n)) n 0
