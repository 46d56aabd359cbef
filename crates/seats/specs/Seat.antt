-- One task of a rehearsal: its state and its runs' lengths, with a run more and without the oldest.
use Rattle.std.specs.Prelude.{ℕ, cond, eqb}
use Rattle.std.proofs.Math.IntN.{sub_ℕ}
use Rattle.planning.specs.declared.Line.{Line}
use Rattle.task_state.specs.declared.State.{State}
use Rattle.units.specs.Refusals.{number_said}
use Rattle.fronts.specs.declared.Front.{Front}
use Rattle.task_state.specs.State.{fresh_state, no_state}
use Rattle.task_state.specs.Due.{release_at}
use Rattle.task_state.specs.Runs.{with_run, without_run}
use Rattle.task_state.specs.Tests.{release_tests}
use Rattle.task_state.specs.Key.{deadline_of}
use Rattle.run_lengths.specs.declared.Work.{Work}
use Rattle.run_lengths.specs.Work.{fresh_work, no_work, with_length, without_length}
use Rattle.fronts.specs.Front.{front_of}
use Rattle.seats.specs.declared.Seat.{Seat}
use Rattle.seats.specs.declared.Arrived.{Arrived as Told}
use Rattle.seats.specs.declared.Ended.{Ended}

-- a task's state and lengths
abbrev pub seat : State → Work → Seat
seat st wk = record { state = st; work = wk }

-- a task that has had no run
unfoldable pub fresh_seat : Seat
fresh_seat = seat fresh_state fresh_work

-- what stands past the last task
abbrev pub no_seat : Seat
no_seat = seat no_state no_work

-- an arrival's refusal, 0 if it is taken; the task after it, and its front
pub record Arrived : Type 0 where
  pub refusal : ℕ
  pub seat : Seat
  pub front : Front

-- a run of n ticks arrives at t: taken, or refused and nothing changed
unfoldable pub arrived_of : Line → State → Work → ℕ → ℕ → Arrived
arrived_of ln st wk t n =
    let more = with_run ln st (release_at ln st t) in
    let lengths = with_length wk st.live n in
    let ok = eqb (release_tests ln st t) 0 in
    record {
      refusal = release_tests ln st t;
      seat = cond ok (seat more lengths) (seat st wk);
      front = cond ok (front_of ln more lengths) (front_of ln st wk);
    }

-- what the code's answer tells
abbrev pub arrival_told : Told → Arrived
arrival_told a = record { refusal = number_said a.taken; seat = a.seat; front = a.front }

-- the oldest run ends at t
unfoldable pub ended_of : Line → State → Work → ℕ → Ended
ended_of ln st wk t = record {
  late = sub_ℕ t (deadline_of st);
  seat = seat (without_run st) (without_length wk);
  front = front_of ln (without_run st) (without_length wk);
}
