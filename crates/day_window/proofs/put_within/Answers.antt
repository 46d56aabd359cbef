-- `day_window::put_within` meets its contract.
use Rattle.day_window.proofs.Windows.{inside}
use Rattle.day_window.proofs.put_within.Goals as goal

pub returns-then-skip-at-clause-windowed : goal.returns-then-skip-at-clause-windowed
returns-then-skip-at-clause-windowed c = inside c.if-skip-at.true c.put_event.ensures.wrote
