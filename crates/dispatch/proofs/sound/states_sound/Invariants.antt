-- `dispatch::sound::states_sound` meets its contract.
use Rattle.dispatch.specs.Sound.{state_ok}
use Rattle.lists.specs.Below.{all_below}
use mathlib.Core.Bool.{true}
use mathlib.Core.Path.{◌≡◌}
use Rattle.dispatch.proofs.sound.states_sound.Given as goal

abbrev pub invariant-loop-i : goal.invariant-loop-i
invariant-loop-i l = all_below l.i (state_ok l.plan l.states) ≡ true
