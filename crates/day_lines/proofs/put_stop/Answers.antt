-- `day_lines::put_stop` meets its contract.
use Rattle.writing.proofs.Wrote.{then}
use Rattle.day_lines.specs.Lines.{stop_text}
use Rattle.day_lines.proofs.put_stop.Goals as goal

pub returns-clause-wrote : goal.returns-clause-wrote
unfolding stop_text
returns-clause-wrote c =
    then c.put_field-a.ensures.wrote c.put_byte.ensures
