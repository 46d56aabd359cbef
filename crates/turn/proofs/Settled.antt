-- Any two answers that a public function's contract allows are equal.
use mathlib.Core.Path.{sym, ◌∙◌}
use Rattle.lists.specs.Settled.{Settled}
use Rattle.turn.proofs.turn_of.Reads as TurnOf

pub turn_of_lem : Settled TurnOf.Post
turn_of_lem κs a x y e f p q = p ∙ sym q
