-- Any two answers that a public function's contract allows are equal.
use mathlib.Core.Path.{sym, ◌∙◌}
use Rattle.lists.specs.Settled.{Settled}
use Rattle.core_rules.proofs.core_within.Reads as CoreWithin
use Rattle.core_rules.proofs.few_movers.Reads as FewMovers
use Rattle.core_rules.proofs.one_first.Reads as OneFirst
use Rattle.core_rules.proofs.guarded.Reads as Guarded

pub core_within_lem : Settled CoreWithin.Post
core_within_lem κs a x y e f p q = p ∙ sym q

pub few_movers_lem : Settled FewMovers.Post
few_movers_lem κs a x y e f p q = p ∙ sym q

pub one_first_lem : Settled OneFirst.Post
one_first_lem κs a x y e f p q = p ∙ sym q

pub guarded : Settled Guarded.Post
guarded κs a x y e f p q = p ∙ sym q
