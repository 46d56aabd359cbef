-- `core_rules::one_first` meets its contract: the code's tests are the rule's.
use mathlib.Core.Path.{refl}
use Rattle.core_rules.proofs.one_first.Goals as goal

pub returns : goal.returns
returns c = refl
