-- Any two answers that a public function's contract allows are equal, and each byte of the buffer.
use Rattle.lists.specs.Settled.{SettledLent}
use Rattle.writing.proofs.Wrote.{settled}
use Rattle.sheet_answer.proofs.sheet.answer_sheet.Reads as AnswerSheet
use Rattle.sheet_answer.proofs.table.answer_table.Reads as AnswerTable

pub answer_sheet_lem : SettledLent (λ κs e. e.1.0.now) AnswerSheet.Post
answer_sheet_lem κs a x y e f p q = settled p.0 q.0

pub answer_table_lem : SettledLent (λ κs e. e.1.0.now) AnswerTable.Post
answer_table_lem κs a x y e f p q = settled p.0 q.0
