-- Any two answers that a public function's contract allows are equal.
use mathlib.Core.Path.{sym, ◌∙◌}
use Rattle.lists.specs.Settled.{Settled}
use Rattle.release_times.proofs.release_time.Reads as ReleaseTime
use Rattle.release_times.proofs.held.Reads as HeldReads

pub release_time_lem : Settled ReleaseTime.Post
release_time_lem κs a x y e f p q = p ∙ sym q

pub is_held : Settled HeldReads.Post
is_held κs a x y e f p q = p ∙ sym q
