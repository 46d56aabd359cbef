-- `task_shares::standing::moves_by` meets its contract: the test is its own.
use mathlib.Core.Path.{refl}
use Rattle.task_shares.proofs.standing.moves_by.Goals as goal

pub returns : goal.returns
returns c = refl
