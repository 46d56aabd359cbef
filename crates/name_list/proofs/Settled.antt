-- Any two answers that a public function's contract allows are equal.
use mathlib.Core.Path.{sym, ◌∙◌}
use Rattle.lists.specs.Settled.{Settled}
use Rattle.name_list.proofs.name_twice.Reads as NameTwice
use Rattle.name_list.proofs.read_names.Reads as ReadNames

pub name_twice_lem : Settled NameTwice.Post
name_twice_lem κs a x y e f p q = p ∙ sym q

pub read_names : Settled ReadNames.Post
read_names κs a x y e f p q = p ∙ sym q
