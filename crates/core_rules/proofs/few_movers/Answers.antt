-- `core_rules::few_movers` meets its contract: the code's tests are the rule's.
use mathlib.Core.Path.{refl}
use Rattle.core_rules.proofs.few_movers.Goals as goal

pub returns : goal.returns
returns c = refl
