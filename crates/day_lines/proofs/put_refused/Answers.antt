-- `day_lines::put_refused` meets its contract.
use Rattle.writing.proofs.Wrote.{then}
use Rattle.day_lines.specs.Lines.{refused_text}
use Rattle.day_lines.proofs.put_refused.Goals as goal

pub returns-clause-wrote : goal.returns-clause-wrote
unfolding refused_text
returns-clause-wrote c =
    let w = then (then c.put_field-a.ensures.wrote c.put_field-b.ensures.wrote) c.put_field-c.ensures.wrote in
    then (then w c.put_field-d.ensures.wrote) c.put_byte.ensures
