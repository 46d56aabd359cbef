-- Any two answers that a public function's contract allows are equal, and each byte of the buffer.
use Rattle.lists.specs.Settled.{SettledLent}
use Rattle.writing.proofs.Wrote.{settled}
use Rattle.day_lines.proofs.put_event.Reads as PutEvent

pub put_event_lem : SettledLent (λ κs e. e.0.now) PutEvent.Post
put_event_lem κs a x y e f p q = settled p.0 q.0
