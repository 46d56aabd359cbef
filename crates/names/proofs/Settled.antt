-- Any two answers that a public function's contract allows are equal.
use mathlib.Core.Path.{sym, ◌∙◌}
use Rattle.lists.specs.Settled.{Settled}
use Rattle.names.proofs.name.name_end.Reads as NameEnd

pub name_end_lem : Settled NameEnd.Post
name_end_lem κs a x y e f p q = p ∙ sym q
