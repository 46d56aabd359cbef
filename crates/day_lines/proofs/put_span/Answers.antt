-- `day_lines::put_span` meets its contract.
use Rattle.writing.proofs.Wrote.{then}
use Rattle.day_lines.specs.Lines.{span_text}
use Rattle.day_lines.proofs.put_span.Goals as goal

pub returns-clause-wrote : goal.returns-clause-wrote
unfolding span_text
returns-clause-wrote c =
    let w = then (then c.put_ran-a.ensures.wrote c.put_field-b.ensures.wrote) c.put_field-c.ensures.wrote in
    then w c.put_byte.ensures
