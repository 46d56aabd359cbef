-- `sheet_answer::table::answer_table` meets its contract.
use mathlib.Core.Path.{refl}
use Rattle.units.proofs.Refusals.{refuses}
use Rattle.writing.proofs.Wrote.{recast}
use Rattle.sheet_reading.specs.Read.{unread}
use Rattle.sheet_answer.specs.Answers.{table_lines, table_text}
use Rattle.sheet_answer.proofs.Answered.{listable, answer_no, answer_is}
use Rattle.sheet_answer.proofs.table.answer_table.Goals as goal

pub put_plan-requires : goal.put_plan-requires
put_plan-requires c = (listable _ c.in-Ok.ensures refl).tasks

pub returns-in-Ok-clause-wrote : goal.returns-in-Ok-clause-wrote
unfolding table_text table_lines
returns-in-Ok-clause-wrote c = recast (answer_is table_lines c.in-Ok.ensures refl) c.put_plan.ensures.wrote

pub returns-in-Err-clause-wrote : goal.returns-in-Err-clause-wrote
unfolding table_text unread
returns-in-Err-clause-wrote c = recast (answer_no table_lines c.in-Err.ensures (λ z. refuses c.in-Err.refusal.reason z)) c.put_refusal.ensures.wrote
