-- `writing::put_field` meets its contract: one text after another.
use Rattle.writing.proofs.Wrote.{then}
use Rattle.writing.proofs.put_field.Goals as goal

pub returns-clause-wrote : goal.returns-clause-wrote
returns-clause-wrote c =
    search then
