-- `rehearsal::steps::fresh_desk` meets its contract.
use mathlib.Core.Path.{refl}
use Rattle.task_state.specs.State.{fresh_state}
use Rattle.run_lengths.specs.Work.{fresh_work}
use Rattle.seats.specs.Seat.{fresh_seat}
use Rattle.rehearsal.specs.Desk.{fresh_desk}
use Rattle.rehearsal.proofs.steps.fresh_desk.Goals as goal

pub returns : goal.returns
unfolding fresh_desk fresh_seat fresh_state fresh_work
returns c = refl
