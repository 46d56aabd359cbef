-- `sheet_writing::put_sheet` meets its contract.
use Rattle.sheet_writing.proofs.Sheet.{Writing}
use Rattle.sheet_writing.proofs.put_sheet.Given as goal

abbrev pub invariant-loop-k : goal.invariant-loop-k
invariant-loop-k l = Writing l.table l.names l.tick l.initial.buf l.initial.end l.buf l.at l.end l.k
