-- `day_lines::put_left` meets its contract.
use Rattle.writing.proofs.Wrote.{then}
use Rattle.day_lines.proofs.put_left.Goals as goal

pub returns-clause-wrote : goal.returns-clause-wrote
returns-clause-wrote c =
    let w = then (then c.put_field-a.ensures.wrote c.put_field-b.ensures.wrote) c.put_field-c.ensures.wrote in
    then w c.put_field.ensures.wrote
