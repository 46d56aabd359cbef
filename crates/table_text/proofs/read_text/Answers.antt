-- `table_text::read_text` meets its contract.
use mathlib.Core.Path.{sym}
use Rattle.table_text.proofs.Says.{gives_line, gives_same, text_long, text_empty, text_first, text_table}
use native.Mathlib.Omega.{arith}
use Rattle.scanning.proofs.Fields.{field_kept}
use borrow.Author.Rules.{rules}
use Rattle.table_text.proofs.read_text.Goals as goal

pub returns-then-n-gt-BYTES : goal.returns-then-n-gt-BYTES
returns-then-n-gt-BYTES c =
    let w = gives_line 0 c.args.table.now (text_long c.args.text.now c.if-n-gt-BYTES.true) in
    record { value = w.0; table_after = w.1 }

pub returns-then-n-eq0 : goal.returns-then-n-eq0
returns-then-n-eq0 c =
    let w = gives_line 0 c.args.table.now (text_empty c.args.text.now c.if-n-eq0.true) in
    record { value = w.0; table_after = w.1 }

pub overflow_cast-cores : goal.overflow_cast-cores
overflow_cast-cores c =
    omega (arith, (field_kept _ _ _ _ _ _ (search rules) (sym c.in-Some.ensures)).0)

pub returns-in_default : goal.returns-in_default
returns-in_default c =
    let w = gives_line 1 c.args.table.now (text_first c.args.text.now c.if-n-gt-BYTES.false c.if-n-eq0.false (sym c.in_default.ensures)) in
    record { value = w.0; table_after = w.1 }

pub returns : goal.returns
returns c =
    let t = c.read_table.ensures in
    let w = gives_same c.args.table.now (text_table c.args.text.now c.if-n-gt-BYTES.false c.if-n-eq0.false (sym c.in-Some.ensures)) (t.value, t.table_after) in
    record { value = w.0; table_after = w.1 }
