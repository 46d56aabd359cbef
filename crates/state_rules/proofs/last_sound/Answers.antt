-- The four tests are the contract's own: another test is refused beside the one that it should be.
use mathlib.Core.Path.{refl}
use Rattle.state_rules.proofs.last_sound.Goals as goal

pub returns : goal.returns
returns c = refl
