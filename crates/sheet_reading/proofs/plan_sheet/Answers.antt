-- `sheet_reading::plan_sheet` meets its contract.
use Prim.Native.Nat.{◌≤◌}
use mathlib.Core.Path.{ap, ◌∙◌, refl, sym}
use native.Mathlib.Omega.{arith}
use borrow.Author.Rules.{rules}
use lib.ListN.{length}
use lib.Seq.{length-take-le}
use Rattle.sheet_text.proofs.Answered.{is_refused, is_few, is_short, is_read}
use Rattle.sheet_reading.specs.Read.{unread}
use Rattle.sheet_reading.proofs.Plans.{sheet_no_lem, sheet_planned}
use Rattle.sheet_reading.proofs.plan_sheet.Goals.{In-Ok}
use Rattle.sheet_reading.proofs.plan_sheet.Goals as goal

-- the numbers fit the table
fits : (c : In-Ok) → c.in-Ok.read.count ≤ length c.read_sheet.new.table
fits c = omega (arith, is_few _ c.in-Ok.ensures.value refl, c.read_sheet.auto.table)

pub slice_bounds-table-end : goal.slice_bounds-table-end
slice_bounds-table-end c = fits (goal.at.slice_bounds-table-end c).In-Ok

pub slice_bounds-plan_jobs-end : goal.slice_bounds-plan_jobs-end
slice_bounds-plan_jobs-end c = sym (length-take-le _ _ (fits (goal.at.slice_bounds-plan_jobs-end c).In-Ok))

pub plan_jobs-requires : goal.plan_jobs-requires
plan_jobs-requires c = is_short _ c.in-Ok.ensures.value refl

pub returns-in-Err : goal.returns-in-Err
returns-in-Err c = ap unread c.from.ensures ∙ sheet_no_lem _ _ (is_refused _ c.in-Err.ensures.value refl)

pub returns : goal.returns
returns c =
    let r = is_read _ c.in-Ok.ensures.value refl _ (search rules) c.in-Ok.ensures.table_after in
    c.plan_jobs.ensures ∙ sheet_planned _ _ _ _ r.0 r.1
