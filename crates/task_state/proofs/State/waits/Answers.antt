-- `task_state::State::waits` meets its contract.
use Prim.Native.Nat.{ℕ}
use mathlib.Core.Path.{◌≡◌, refl}
use mathlib.Core.Bool.{Bool, not, ◌&&◌}
use lib.Dec.{ltb, eqb}
use lib.ListN.{get_or}
use Rattle.units.specs.declared.ticks.Duration.{Duration}
use Rattle.units.specs.Units.{duration}
use Rattle.planning.specs.declared.Line.{Line}
use Rattle.release_times.specs.Times.{held_at}
use Rattle.task_state.specs.declared.State.{State}
use Rattle.task_state.specs.Due.{due_after}
use Rattle.task_state.specs.Key.{deadline_of, waits}
use Rattle.task_state.proofs.State.waits.Goals as goal

-- the three tests are the contract's own: another core is refused beside the one that it should be
tests : (ln : Line) (st : State) (k x : ℕ) {after : Duration} {early b : Bool} → after ≡ duration (due_after ln) → early ≡ held_at after.0 (deadline_of st) x
    → b ≡ (ltb 0 st.live && eqb (get_or st.cores 0 0) k && not early) → b ≡ waits ln st k x
tests ln st k x q e s = rw (s, e, q)

pub returns : goal.returns
returns c =
    let s = c.args in
    tests s.line s.self s.core s.time.0 c.due_after.ensures c.held-early.ensures refl
