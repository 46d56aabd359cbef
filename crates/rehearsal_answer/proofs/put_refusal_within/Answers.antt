-- `rehearsal_answer::put_refusal_within` meets its contract.
use Rattle.day_window.proofs.Windows.{cut, past}
use borrow.Author.Rules.{rules}
use Rattle.rehearsal_answer.proofs.put_refusal_within.Goals as goal

pub returns-then-skip-n : goal.returns-then-skip-n
returns-then-skip-n c =
    cut c.put_refusal-n.ensures.wrote (search rules) c.if-skip-n.true c.put_text.ensures

pub returns-else-skip-n : goal.returns-else-skip-n
returns-else-skip-n c = past c.put_refusal-n.ensures.wrote c.if-skip-n.false
