-- Any two answers that the public function's contract allows are equal, and each byte of the buffer.
use Rattle.lists.specs.Settled.{SettledLent}
use Rattle.day_window.proofs.Windows.{settled}
use Rattle.day_window.proofs.put_within.Reads as PutWithin

pub put_within_lem : SettledLent (λ κs e. e.0.now) PutWithin.Post
put_within_lem κs a x y e f p q = settled p.0 q.0
