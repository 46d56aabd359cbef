-- `sheet_text::sheet::read_jobs` meets its contract.
use mathlib.Core.Path.{◌≡◌}
use native.Mathlib.Omega.{arith}
use Rattle.units.specs.Refusals.{sheet_no}
use Rattle.scanning.proofs.Sought.{told_some, told_none}
use Rattle.sheet_text.specs.Job.{bad_job}
use Rattle.sheet_text.specs.Sheet.{refused_by, jobs_said}
use Rattle.sheet_text.proofs.Says.{gives_no, gives_jobs, tick_range, jobs_long, jobs_bad, jobs_twice, jobs_said_lem}
use Rattle.sheet_text.proofs.sheet.read_jobs.Goals.{Else-is_some, then-sheet-gt-SHEET-via-then-sheet-gt-SHEET, then-sheet-gt-SHEET-via-else-sheet-gt-SHEET+then-is_some}
use Rattle.sheet_text.proofs.sheet.read_jobs.Goals as goal

-- each line can be read
fine : (c : Else-is_some) → bad_job c.args.sheet.now c.args.from ≡ 0
fine c = told_none c.first_unreadable.ensures c.if-is_some.ensures

pub returns-then-sheet-gt-SHEET : goal.returns-then-sheet-gt-SHEET
returns-then-sheet-gt-SHEET c =
    let a = c.args in
    let e : jobs_said a.sheet.now a.tick a.from ≡ refused_by sheet_no =
    elim c.then-sheet-gt-SHEET.branch [
      | then-sheet-gt-SHEET-via-then-sheet-gt-SHEET w ↦ jobs_long _ _ _ w.if-sheet-gt-SHEET.true
      | then-sheet-gt-SHEET-via-else-sheet-gt-SHEET+then-is_some w ↦ jobs_bad _ _ _ w.if-sheet-gt-SHEET.false
          (told_some w.first_unreadable.ensures w.if-is_some.ensures)
    ] in
    let w = gives_no a.from _ a.table.now e in
    record { value = w.0; table_after = w.1 }

pub named_twice-requires : goal.named_twice-requires
named_twice-requires c = (c.if-sheet-gt-SHEET.false, fine c)

pub returns-then-named_twice : goal.returns-then-named_twice
returns-then-named_twice c =
    let a = c.args in
    let f = fine (goal.at.returns-then-named_twice c).Else-is_some in
    let w = gives_no a.from _ a.table.now (jobs_twice a.sheet.now a.tick a.from c.if-sheet-gt-SHEET.false f c.named_twice.ensures c.if-named_twice.true) in
    record { value = w.0; table_after = w.1 }

pub store_ticks-count-requires : goal.store_ticks-count-requires
store_ticks-count-requires c = (tick_range _ c.requires).0

pub overflow_cast-result : goal.overflow_cast-result
overflow_cast-result c = omega (arith, (tick_range c.args.tick c.requires).1)

pub returns : goal.returns
returns c =
    let a = c.args in
    let n = c.store_ticks-count in
    let f = fine (goal.at.returns c).Else-is_some in
    let w = gives_jobs a.from a.tick n.result _ a.table.now n.new.table
    (jobs_said_lem a.sheet.now a.tick a.from c.if-sheet-gt-SHEET.false f c.named_twice.ensures c.if-named_twice.false) n.ensures.value n.ensures.table_after in
    record { value = w.0; table_after = w.1 }
