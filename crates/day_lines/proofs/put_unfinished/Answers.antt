-- `day_lines::put_unfinished` meets its contract.
use Rattle.writing.proofs.Wrote.{then}
use Rattle.day_lines.specs.Lines.{unfinished_text}
use Rattle.day_lines.proofs.put_unfinished.Goals as goal

pub returns-clause-wrote : goal.returns-clause-wrote
unfolding unfinished_text
returns-clause-wrote c =
    let w = then (then c.put_left-a.ensures.wrote c.put_field-b.ensures.wrote) c.put_field-c.ensures.wrote in
    then w c.put_byte.ensures
