-- `task_state::State::with_run` meets its contract.
use Prim.Native.Nat.{◌+◌, ◌≤◌}
use mathlib.Core.Path.{◌≡◌}
use native.Mathlib.Omega.{arith}
use borrow.Author.Rules.{rules}
use lib.ListN.{length, set}
use Rattle.units.specs.declared.ticks.Ticks.{Ticks}
use Rattle.units.specs.Limits.{cores_limit, clock_limit}
use Rattle.units.specs.declared.ticks.Duration.{Duration}
use Rattle.units.specs.Units.{ticks, duration}
use Rattle.units.proofs.Units.{nums_long}
use Rattle.planning.specs.declared.Line.{Line}
use Rattle.planning.specs.Plan.{row_of}
use Rattle.turn.specs.declared.Turn.{Turn}
use Rattle.turn.proofs.Keeps.{turn_keeps}
use Rattle.task_state.specs.declared.State.{State}
use Rattle.task_state.specs.Due.{due_after, release_at}
use Rattle.task_state.specs.Runs.{turn_at, with_run, taken_run}
use Rattle.task_state.proofs.State.with_run.Goals.{Start}
use Rattle.task_state.proofs.State.with_run.Goals as goal

-- the turn's core is at most 16
core_in_lem : (s : Start) → (turn_at s.args.line s.args.self).core ≤ cores_limit
core_in_lem s =
    let ln = s.args.line in
    let st = s.args.self in
    let wide : length (row_of ln) ≡ cores_limit = nums_long ln.shares cores_limit (search rules) in
    let long : length st.counts ≡ cores_limit = search rules in
    (turn_keeps ln.weight.0 st.place (row_of ln) st.counts s.requires.turn wide long).to

-- the task with its run, by the turn x, the release time y and what is due after it
run_taken : (ln : Line) (st : State) (time : Ticks) {x : Turn} {y : Ticks} {after : Duration}
    → x ≡ turn_at ln st → y ≡ ticks (release_at ln st time.0) → after ≡ duration (due_after ln)
    → let due = ticks (y.0 + after.0) in record {
      state = record {
        last = y;
        deadlines = set st.deadlines st.live due;
        counts = x.counts;
        place = x.place;
        cores = set st.cores st.live x.core;
        live = st.live + 1;
        had = 1;
      };
      core = x.core;
      deadline = due;
    }
    ≡ taken_run ln st time.0
unfolding with_run taken_run
run_taken ln st time e q d = rw (e, q, d)

pub overflow_add-due : goal.overflow_add-due
overflow_add-due c =
    let in_time : c.release_time-released.result.0 ≤ clock_limit = rw c.release_time-released.ensures c.requires.released in
    omega (arith, in_time)

pub overflow_cast-state : goal.overflow_cast-state
overflow_cast-state c =
    let small : c.turn_of-turn.result.core ≤ cores_limit = rw c.turn_of-turn.ensures (core_in_lem (goal.at.overflow_cast-state c).Start) in
    omega (arith, small)

pub returns : goal.returns
returns c =
    let s = c.args in
    run_taken s.line s.self s.time c.turn_of-turn.ensures c.release_time-released.ensures c.due_after-after.ensures
