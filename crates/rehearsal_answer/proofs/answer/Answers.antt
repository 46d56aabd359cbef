-- `rehearsal_answer::answer` meets its contract.
use mathlib.Core.Path.{refl, sym}
use native.Mathlib.Omega.{arith}
use lib.Seq.{length-take-le}
use Rattle.day_window.proofs.Windows.{recast}
use Rattle.day_text.proofs.Answered.{is_unreadable, table_few, numbers_few, is_read}
use Rattle.rehearsal_answer.proofs.Texts.{due, input_bad, input_good}
use borrow.Author.Rules.{rules}
use Rattle.rehearsal_answer.proofs.answer.Goals as goal

pub slice_bounds-table-end : goal.slice_bounds-table-end
slice_bounds-table-end c = omega (arith, table_few _ c.in-Ok.ensures.value refl)

pub slice_bounds-put_planned-end : goal.slice_bounds-put_planned-end
slice_bounds-put_planned-end c = sym (length-take-le _ _ (search (rules, table_few _ c.in-Ok.ensures.value refl)))

pub slice_bounds-arrivals-end : goal.slice_bounds-arrivals-end
slice_bounds-arrivals-end c = omega (arith, numbers_few _ c.in-Ok.ensures.value refl)

pub slice_bounds-day-end : goal.slice_bounds-day-end
slice_bounds-day-end c = sym (length-take-le _ _ (search (rules, numbers_few _ c.in-Ok.ensures.value refl)))

pub returns-in-Err : goal.returns-in-Err
returns-in-Err c =
    due (input_bad _ (is_unreadable _ c.in-Err.ensures.value refl)) c.put_refusal_within.ensures refl

pub returns-in-Ok : goal.returns-in-Ok
returns-in-Ok c =
    let e = c.in-Ok.ensures in
    recast (input_good _ (is_read _ e.value refl _ _ (search rules) (search rules) e.table_after e.arrivals_after)) c.put_planned.ensures
