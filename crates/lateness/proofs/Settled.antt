-- Any two answers that a public function's contract allows are equal.
use mathlib.Core.Path.{sym, ◌∙◌}
use Rattle.lists.specs.Settled.{Settled}
use Rattle.lateness.proofs.bounds.bounds_of.Reads as BoundsOf

pub bounds_of : Settled BoundsOf.Post
bounds_of κs a x y e f p q = p ∙ sym q
