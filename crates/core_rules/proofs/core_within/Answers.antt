-- `core_rules::core_within` meets its contract: the code's tests are the rule's.
use mathlib.Core.Path.{refl}
use Rattle.core_rules.proofs.core_within.Goals as goal

pub returns : goal.returns
returns c = refl
