-- `task_state::State::finish_tests` meets its contract.
use Prim.Native.Nat.{ℕ}
use mathlib.Core.Path.{◌≡◌, ◌∙◌}
use mathlib.Core.Bool.{Bool}
use Rattle.units.specs.declared.ticks.Duration.{Duration}
use Rattle.units.specs.Units.{duration}
use Rattle.planning.specs.declared.Line.{Line}
use Rattle.release_times.specs.Times.{held_at}
use Rattle.call_tests.specs.Tests.{finish_tests as finish_no}
use Rattle.task_state.specs.declared.State.{State}
use Rattle.task_state.specs.Due.{due_after}
use Rattle.task_state.specs.Key.{deadline_of}
use Rattle.task_state.specs.Tests.{finish_tests}
use Rattle.task_state.proofs.State.finish_tests.Goals as goal

-- the oldest run is asked: another's deadline is refused beside its own
tests : (ln : Line) (st : State) (x : ℕ) {after : Duration} {early : Bool} {n : ℕ} → after ≡ duration (due_after ln)
    → early ≡ held_at after.0 (deadline_of st) x → n ≡ finish_no st.live early → n ≡ finish_tests ln st x
tests ln st x q e s = s ∙ rw (e, q)

pub returns : goal.returns
returns c =
    let s = c.args in
    tests s.line s.self s.time.0 c.due_after.ensures c.held-early.ensures c.finish_tests.ensures
