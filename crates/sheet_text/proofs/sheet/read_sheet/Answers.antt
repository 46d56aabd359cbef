-- `sheet_text::sheet::read_sheet` meets its contract.
use mathlib.Core.Path.{sym}
use Rattle.sheet_text.specs.Sheet.{tick_line, end_of}
use Rattle.sheet_text.proofs.Says.{gives_no, gives_same, sheet_none, sheet_out, sheet_is, starts_at}
use Rattle.sheet_text.proofs.sheet.read_sheet.Goals as goal

pub returns-in_default : goal.returns-in_default
returns-in_default c =
    let a = c.args in
    let w = gives_no (end_of (tick_line a.sheet.now)) _ a.table.now (sheet_none a.sheet.now (sym c.in_default.ensures)) in
    record { value = w.0; table_after = w.1 }

pub read_jobs-requires : goal.read_jobs-requires
read_jobs-requires c = sym c.if-tick_in.ensures

pub returns-then-tick_in : goal.returns-then-tick_in
returns-then-tick_in c =
    let e = sym c.in-Some.ensures in
    let a = c.args in
    let j = c.read_jobs.ensures in
    let w = gives_same a.table.now (starts_at a.sheet.now e) (sheet_is a.sheet.now e (sym c.if-tick_in.ensures)) (j.value, j.table_after) in
    record { value = w.0; table_after = w.1 }

pub returns-else-tick_in : goal.returns-else-tick_in
returns-else-tick_in c =
    let a = c.args in
    let w = gives_no (end_of (tick_line a.sheet.now)) _ a.table.now (sheet_out a.sheet.now (sym c.in-Some.ensures) (sym c.if-tick_in.ensures)) in
    record { value = w.0; table_after = w.1 }
