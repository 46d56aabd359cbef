-- Any two answers that a public function's contract allows are equal.
use mathlib.Core.Path.{sym, ◌∙◌}
use Rattle.lists.specs.Settled.{Settled}
use Rattle.little_endian.proofs.number32.Reads as Number32

pub number32 : Settled Number32.Post
number32 κs a x y e f p q = p ∙ sym q
