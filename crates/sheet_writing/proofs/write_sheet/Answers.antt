-- `sheet_writing::write_sheet` meets its contract.
use mathlib.Core.Path.{◌≡◌, refl}
use Rattle.std.proofs.Common.{Err, rules}
use Rattle.units.proofs.Refusals.{refuses}
use Rattle.sheet_writing.proofs.Answers.{refused, table_few, fits}
use Rattle.sheet_writing.proofs.write_sheet.Goals as goal

pub returns-in_err-write_test : goal.returns-in_err-write_test
returns-in_err-write_test c =
    let s = c.args in
    let r = c.in_err-write_test.field-0.0 in
    let e : c.from_residual.result ≡ Err r = search rules in
    let w = refused s.cores s.table.now s.names.now s.tick s.buf.now c.in_err-write_test.ensures (λ z. refuses r.reason z) in
    record { value = rw e w.0; buf_after = w.1 }

pub write_taken-requires : goal.write_taken-requires
write_taken-requires c =
    let s = c.args in
    table_few s.cores s.table.now s.names.now s.tick s.buf.now c.in_ok-write_test.ensures refl

pub returns : goal.returns
returns c =
    let s = c.args in
    let w = fits s.cores s.table.now s.names.now s.tick s.buf.now c.in_ok-write_test.ensures refl c.write_taken.ensures.value
    c.write_taken.ensures.buf_after in
    record { value = w.0; buf_after = w.1 }
