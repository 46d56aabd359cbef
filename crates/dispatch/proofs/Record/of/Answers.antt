-- `dispatch::Record::of` meets its contract.
use Rattle.dispatch.specs.Record.{record_of}
use Rattle.task_state.specs.State.{fresh_state}
use mathlib.Core.Path.{refl}
use Rattle.dispatch.proofs.Record.of.Goals as goal

pub returns : goal.returns
unfolding record_of fresh_state
returns c = refl
