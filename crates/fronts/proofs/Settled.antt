-- Any two answers that a public function's contract allows are equal.
use mathlib.Core.Path.{sym, ◌∙◌}
use Rattle.lists.specs.Settled.{Settled}
use Rattle.fronts.proofs.Front.sees.Reads as FrontSees
use Rattle.fronts.proofs.Front.ahead.Reads as FrontAhead
use Rattle.fronts.proofs.front_of.Reads as FrontOf

pub sees : Settled FrontSees.Post
sees κs a x y e f p q = p ∙ sym q

pub ahead : Settled FrontAhead.Post
ahead κs a x y e f p q = p ∙ sym q

pub front_of : Settled FrontOf.Post
front_of κs a x y e f p q = p ∙ sym q
