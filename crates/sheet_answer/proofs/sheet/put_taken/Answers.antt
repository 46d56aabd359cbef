-- `sheet_answer::sheet::put_taken` meets its contract.
use native.Mathlib.Omega.{arith}
use Rattle.sheet_answer.proofs.Answered.{listed, names_few, parts}
use Rattle.sheet_answer.proofs.sheet.put_taken.Goals as goal

pub put_field-a-requires : goal.put_field-a-requires
put_field-a-requires c =
    omega (arith, (listed c.requires.0 c.list_plan.result c.requires.1 c.list_plan.ensures.value c.list_plan.ensures.buf_after c.unwrap_or-length.ensures).1)

pub put_byte-b-requires : goal.put_byte-b-requires
put_byte-b-requires c =
    omega (
      arith,
      (listed c.requires.0 c.list_plan.result c.requires.1 c.list_plan.ensures.value c.list_plan.ensures.buf_after c.unwrap_or-length.ensures).1,
      c.put_field-a.ensures.upper_bound,
    )

pub put_name_lines-requires : goal.put_name_lines-requires
put_name_lines-requires c =
    let l = listed c.requires.0 c.list_plan.result c.requires.1 c.list_plan.ensures.value c.list_plan.ensures.buf_after c.unwrap_or-length.ensures in
    (omega (arith, l.1, c.put_field-a.ensures.upper_bound, c.put_byte-b.ensures.end), names_few c.requires.0)

pub returns-clause-wrote : goal.returns-clause-wrote
returns-clause-wrote c =
    let l = listed c.requires.0 c.list_plan.result c.requires.1 c.list_plan.ensures.value c.list_plan.ensures.buf_after c.unwrap_or-length.ensures in
    parts _ l.0 c.put_field-a.ensures.wrote c.put_byte-b.ensures c.put_name_lines.ensures.wrote

pub returns-clause-upper_bound : goal.returns-clause-upper_bound
returns-clause-upper_bound c =
    let l = listed c.requires.0 c.list_plan.result c.requires.1 c.list_plan.ensures.value c.list_plan.ensures.buf_after c.unwrap_or-length.ensures in
    omega (arith, l.1, c.put_field-a.ensures.upper_bound, c.put_byte-b.ensures.end, c.put_name_lines.ensures.upper_bound)
