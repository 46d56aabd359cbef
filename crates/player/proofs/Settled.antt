-- Any two answers that a public function's contract allows are equal, and each byte of the buffer.
use Rattle.lists.specs.Settled.{SettledLent}
use Rattle.writing.proofs.Wrote.{settled}
use Rattle.player.proofs.play.play.Reads as Play

pub play : SettledLent (λ κs e. e.1.0.now) Play.Post
play κs a x y e f p q = settled p.0 q.0
