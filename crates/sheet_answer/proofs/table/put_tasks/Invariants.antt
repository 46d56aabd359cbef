-- `sheet_answer::table::put_tasks` meets its contract.
use Rattle.sheet_answer.proofs.TableLines.{Tabling}
use Rattle.sheet_answer.proofs.table.put_tasks.Given as goal

abbrev pub invariant-loop-line : goal.invariant-loop-line
invariant-loop-line l = Tabling l.lines l.at l.initial.buf l.buf l.line-index l.end
