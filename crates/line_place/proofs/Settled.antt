-- Any two answers that a public function's contract allows are equal.
use mathlib.Core.Path.{sym, ◌∙◌}
use Rattle.lists.specs.Settled.{Settled}
use Rattle.line_place.proofs.line_place.Reads as LinePlace
use Rattle.line_place.proofs.line_starts.Reads as LineStarts

pub line_place_lem : Settled LinePlace.Post
line_place_lem κs a x y e f p q = p.0 ∙ sym q.0

pub line_starts_lem : Settled LineStarts.Post
line_starts_lem κs a x y e f p q = p ∙ sym q
