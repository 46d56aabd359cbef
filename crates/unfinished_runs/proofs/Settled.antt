-- Any two answers that the public function's contract allows are equal, and each byte of the buffer.
use Rattle.lists.specs.Settled.{SettledLent}
use Rattle.day_window.proofs.Windows.{settled}
use Rattle.unfinished_runs.proofs.put_unfinished.Reads as PutUnfinished

pub put_unfinished_lem : SettledLent (λ κs e. e.0.now) PutUnfinished.Post
put_unfinished_lem κs a x y e f p q = settled p.0 q.0
