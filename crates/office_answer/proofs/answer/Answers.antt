-- `office_answer::answer` meets its contract.
use mathlib.Core.Path.{refl}
use native.Mathlib.Omega.{arith}
use borrow.Author.Rules.{rules}
use Rattle.writing.proofs.Wrote.{recast}
use Rattle.table_text.proofs.Answered.{is_unreadable, is_few, is_read, part_whole}
use Rattle.office_answer.proofs.Texts.{due, table_bad, no_names, names_follow}
use Rattle.office_answer.proofs.answer.Goals as goal

pub slice_bounds-table-end : goal.slice_bounds-table-end
slice_bounds-table-end c = omega (arith, is_few _ c.read_text.ensures.value c.in-Ok.is)

pub slice_bounds-put_named-end : goal.slice_bounds-put_named-end
slice_bounds-put_named-end c = part_whole _ c.read_text.new.table (omega (arith, is_few _ c.read_text.ensures.value c.in-Ok.is))

pub returns-in-Err-clause-wrote : goal.returns-in-Err-clause-wrote
returns-in-Err-clause-wrote c =
    due (table_bad _ _ c.line_place-place.ensures.value (is_unreadable _ c.read_text.ensures.value c.in-Err.is)) c.put_refused.ensures.wrote refl

pub returns-in-Ok-clause-wrote : goal.returns-in-Ok-clause-wrote
returns-in-Ok-clause-wrote c =
    recast (names_follow _ _ c.line_place-place.ensures.value
    (is_read _ c.read_text.ensures.value c.in-Ok.is _ (search rules) c.read_text.ensures.table_after) c.if-place-text.true) c.put_named.ensures.wrote

pub returns-in-Ok-2-clause-wrote : goal.returns-in-Ok-2-clause-wrote
returns-in-Ok-2-clause-wrote c =
    due
    (no_names _ _ c.line_place-place.ensures.value (is_read _ c.read_text.ensures.value c.in-Ok.is _ (search rules) c.read_text.ensures.table_after)
    (part_whole _ c.read_text.new.table (omega (arith, is_few _ c.read_text.ensures.value c.in-Ok.is))) c.if-place-text.false)
    c.put_refused-in-Ok-2.ensures.wrote refl
