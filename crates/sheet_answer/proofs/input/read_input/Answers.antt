-- `sheet_answer::input::read_input` meets its contract.
use mathlib.Core.Path.{sym, ◌∙◌}
use native.Mathlib.Omega.{arith}
use Rattle.scanning.proofs.Fields.{field_kept, field_ends}
use Rattle.sheet_answer.proofs.Inputs.{input_none, input_is}
use borrow.Author.Rules.{rules}
use Rattle.sheet_answer.proofs.input.read_input.Goals as goal

pub overflow_cast-cores : goal.overflow_cast-cores
overflow_cast-cores c =
    omega (arith, (field_kept _ _ _ _ _ _ (search rules) (sym c.in-Some.ensures)).0)

pub slice_bounds-plan_sheet-count : goal.slice_bounds-plan_sheet-count
slice_bounds-plan_sheet-count c =
    field_ends _ _ _ _ _ _ (search rules) (sym c.in-Some.ensures)

pub slice_bounds-plan_sheet-start : goal.slice_bounds-plan_sheet-start
slice_bounds-plan_sheet-start c = field_ends _ _ _ _ _ _ (search rules) (sym c.in-Some.ensures)

pub returns-in-None : goal.returns-in-None
returns-in-None c = input_none _ (sym c.in-None.ensures)

pub returns-in-Some : goal.returns-in-Some
returns-in-Some c =
    c.plan_sheet.ensures ∙ input_is _ (sym c.in-Some.ensures)
