-- `sheet_writing::write_taken` meets its contract.
use mathlib.Core.Path.{ap, ◌∙◌}
use Rattle.sheet_writing.specs.Write.{unwritten}
use Rattle.sheet_writing.proofs.Answers.{too_long, written}
use Rattle.sheet_writing.proofs.write_taken.Goals as goal

pub returns-then-buf-need : goal.returns-then-buf-need
returns-then-buf-need c =
    let w = too_long _ c.args.buf.now c.put_sheet-need.ensures.end c.if-buf-need.true in
    record { value = ap unwritten c.from.ensures ∙ w.0; buf_after = w.1 }

pub returns : goal.returns
returns c =
    let w = written _ c.put_sheet.ensures c.put_sheet-need.ensures.end c.if-buf-need.false in
    record { value = w.0; buf_after = w.1 }
