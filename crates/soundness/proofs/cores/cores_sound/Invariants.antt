-- `soundness::cores::cores_sound` meets its contract: the cores that are passed are sound or not.
use mathlib.Core.Path.{◌≡◌}
use Rattle.lists.specs.Below.{all_below}
use Rattle.soundness.specs.Inner.{sums_sound}
use Rattle.soundness.proofs.cores.cores_sound.Given as goal

abbrev pub invariant-loop-p : goal.invariant-loop-p
invariant-loop-p l = l.sound ≡ all_below l.p (sums_sound l.cores l.common l.sums)
