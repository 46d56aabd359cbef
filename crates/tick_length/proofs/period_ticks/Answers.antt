-- `tick_length::period_ticks` meets its contract.
use Rattle.tick_length.proofs.period_ticks.Goals as goal

pub returns : goal.returns
returns c = c.hold.ensures
