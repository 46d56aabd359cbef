-- The period is the contract's own: another duration is refused beside it.
use mathlib.Core.Path.{refl}
use Rattle.task_state.proofs.due.due_after.Goals as goal

pub returns : goal.returns
returns c = refl
