-- Any two answers that a public function's contract allows are equal.
use mathlib.Core.Path.{sym, ◌∙◌}
use Rattle.lists.specs.Settled.{Settled}
use Rattle.stored_runs.proofs.Run.placed.Reads as Placed
use Rattle.stored_runs.proofs.Run.sound.Reads as Sound
use Rattle.stored_runs.proofs.Run.empty.Reads as Empty

pub placed : Settled Placed.Post
placed κs a x y e f p q = p ∙ sym q

pub sound : Settled Sound.Post
sound κs a x y e f p q = p ∙ sym q

pub empty : Settled Empty.Post
empty κs a x y e f p q = p ∙ sym q
