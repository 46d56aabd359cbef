-- A fresh state is sound where the task has a weight, and empty.
use Prim.Native.Nat.{◌<◌}
use mathlib.Core.Path.{◌≡◌, refl}
use mathlib.Core.Bool.{true}
use borrow.Author.Tests.{lt-ltb}
use Rattle.lists.specs.Below.{all_below}
use Rattle.planning.specs.declared.Line.{Line}
use Rattle.task_state.specs.State.{fresh_state}
use Rattle.state_rules.specs.Sound.{state_sound, state_empty}
use Rattle.task_state.specs.Shape.{Shaped}

-- sound
pub fresh_sound : (ln : Line) → 0 < ln.weight.0 → state_sound ln fresh_state ≡ true
unfolding fresh_state all_below
fresh_sound ln h = rw (lt-ltb 0 ln.weight.0 h)

-- empty
pub fresh_empty : state_empty fresh_state ≡ true
unfolding fresh_state all_below
fresh_empty = refl

-- of the right lengths
pub fresh_shaped : Shaped fresh_state
unfolding fresh_state
fresh_shaped = record { deadlines = refl; counts = refl; cores = refl }
