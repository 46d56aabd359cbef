-- `task_state::State::release_tests` meets its contract.
use Prim.Native.Nat.{ℕ}
use mathlib.Core.Path.{◌≡◌, ◌∙◌}
use Rattle.units.specs.declared.ticks.Ticks.{Ticks}
use Rattle.units.specs.Units.{ticks}
use Rattle.planning.specs.declared.Line.{Line}
use Rattle.call_tests.specs.Tests.{release_tests as release_no}
use Rattle.task_state.specs.declared.State.{State}
use Rattle.task_state.specs.Due.{release_at}
use Rattle.task_state.specs.Tests.{release_tests}
use Rattle.task_state.proofs.State.release_tests.Goals as goal

-- its release time is tested: one by another number is refused beside it
tests : (ln : Line) (st : State) (t : ℕ) {x : Ticks} {n : ℕ} → x ≡ ticks (release_at ln st t) → n ≡ release_no x.0 st.live → n ≡ release_tests ln st t
tests ln st t q s = s ∙ rw q

pub returns : goal.returns
returns c =
    let s = c.args in
    tests s.line s.self s.time.0 c.release_time-released.ensures c.release_tests.ensures
