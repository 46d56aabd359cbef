-- Any two answers that the public function's contract allows are equal, and each byte of the buffer.
use Rattle.lists.specs.Settled.{SettledLent}
use Rattle.day_window.proofs.Windows.{settled}
use Rattle.rehearsal.proofs.ending.write_day.Reads as WriteDay

pub write_day_lem : SettledLent (λ κs e. e.1.1.1.1.0.now) WriteDay.Post
write_day_lem κs a x y e f p q = settled p.0 q.0
