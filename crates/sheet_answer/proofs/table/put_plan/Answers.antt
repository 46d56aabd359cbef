-- `sheet_answer::table::put_plan` meets its contract.
use Rattle.writing.proofs.Wrote.{then}
use Rattle.sheet_answer.proofs.table.put_plan.Goals as goal

pub returns-clause-wrote : goal.returns-clause-wrote
returns-clause-wrote c =
    then (then c.put_number-a.ensures.wrote c.put_byte-b.ensures) c.put_tasks.ensures.wrote

pub returns-clause-upper_bound : goal.returns-clause-upper_bound
returns-clause-upper_bound c =
    c.put_tasks.ensures.upper_bound
