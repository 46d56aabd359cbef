-- `day_window::put_cut` meets its contract.
use Rattle.day_window.proofs.Windows.{cut, past}
use borrow.Author.Rules.{rules}
use Rattle.day_window.proofs.put_cut.Goals as goal

pub returns-then-skipped-n-clause-windowed : goal.returns-then-skipped-n-clause-windowed
returns-then-skipped-n-clause-windowed c =
    cut c.put_event-n.ensures.wrote (search rules) c.if-skipped-n.true c.put_text.ensures

pub returns-else-skipped-n-clause-windowed : goal.returns-else-skipped-n-clause-windowed
returns-else-skipped-n-clause-windowed c =
    past c.put_event-n.ensures.wrote c.if-skipped-n.false
