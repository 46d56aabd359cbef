-- Any two answers that a public function's contract allows are equal, and each byte of the buffer.
use Rattle.lists.specs.Settled.{SettledLent}
use Rattle.day_window.proofs.Windows.{settled}
use Rattle.rehearsal_answer.proofs.answer.Reads as Answer

pub answer : SettledLent (λ κs e. e.1.1.0.now) Answer.Post
answer κs a x y e f p q = settled p q
