-- `plan_answer::answer` meets its contract.
use native.Mathlib.Omega.{arith}
use Rattle.writing.proofs.Wrote.{recast}
use Rattle.plan_answer.proofs.Texts.{text_unreadable, text_read}
use Rattle.table_text.proofs.Answered.{is_unreadable, is_few, is_read, part_whole}
use borrow.Author.Rules.{rules}
use Rattle.plan_answer.proofs.answer.Goals as goal

pub slice_bounds-table-end : goal.slice_bounds-table-end
slice_bounds-table-end c = omega (arith, is_few _ c.read_text.ensures.value c.in-Ok.is)

pub slice_bounds-put_table-end : goal.slice_bounds-put_table-end
slice_bounds-put_table-end c =
    part_whole _ c.read_text.new.table (omega (arith, is_few _ c.read_text.ensures.value c.in-Ok.is))

pub returns-in-Err-clause-wrote : goal.returns-in-Err-clause-wrote
returns-in-Err-clause-wrote c =
    recast (text_unreadable _ _ (is_unreadable _ c.read_text.ensures.value c.in-Err.is)) c.put_refusal.ensures.wrote

pub returns-in-Ok-clause-wrote : goal.returns-in-Ok-clause-wrote
returns-in-Ok-clause-wrote c =
    recast (text_read _ _ (is_read _ c.read_text.ensures.value c.in-Ok.is _ (search rules) c.read_text.ensures.table_after)) c.put_table.ensures.wrote
