-- `day_lines::put_event` meets its contract.
use Rattle.day_lines.specs.Lines.{event_text}
use Rattle.day_lines.proofs.put_event.Goals as goal

pub returns-in-Spanned-clause-wrote : goal.returns-in-Spanned-clause-wrote
unfolding event_text
returns-in-Spanned-clause-wrote c = rw c.in-Spanned.is c.put_span.ensures.wrote
