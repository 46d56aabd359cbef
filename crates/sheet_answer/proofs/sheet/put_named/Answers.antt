-- `sheet_answer::sheet::put_named` meets its contract.
use native.Mathlib.Omega.{arith}
use Rattle.sheet_answer.proofs.NameLines.{line_wrote}
use Rattle.sheet_answer.proofs.sheet.put_named.Goals as goal

pub returns-clause-wrote : goal.returns-clause-wrote
returns-clause-wrote c =
    line_wrote _ _ c.put_field-a.ensures.wrote c.put_byte-b.ensures c.put_text-c.ensures c.put_byte.ensures

pub returns-clause-upper_bound : goal.returns-clause-upper_bound
returns-clause-upper_bound c =
    omega (arith, c.put_field-a.ensures.upper_bound, c.put_byte-b.ensures.end, c.put_text-c.ensures.end, c.put_byte.ensures.end)
