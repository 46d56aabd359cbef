-- `sheet_answer::table::put_task` meets its contract.
use native.Mathlib.Omega.{arith}
use Rattle.writing.proofs.Wrote.{then}
use Rattle.sheet_answer.proofs.table.put_task.Goals as goal

pub returns-clause-wrote : goal.returns-clause-wrote
returns-clause-wrote c =
    then (then c.put_number-a.ensures.wrote c.put_field-b.ensures.wrote) c.put_byte.ensures

pub returns-clause-upper_bound : goal.returns-clause-upper_bound
returns-clause-upper_bound c =
    omega (arith, c.put_number-a.ensures.upper_bound, c.put_field-b.ensures.upper_bound, c.put_byte.ensures.end)
