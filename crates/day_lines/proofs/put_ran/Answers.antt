-- `day_lines::put_ran` meets its contract.
use Rattle.writing.proofs.Wrote.{then}
use Rattle.day_lines.proofs.put_ran.Goals as goal

pub returns-clause-wrote : goal.returns-clause-wrote
returns-clause-wrote c =
    then (then c.put_field-a.ensures.wrote c.put_field-b.ensures.wrote) c.put_field.ensures.wrote
