-- Any two answers that a public function's contract allows are equal.
use mathlib.Core.Path.{sym, ap, ◌∙◌}
use Rattle.lists.specs.Settled.{Settled}
use Rattle.units.specs.Units.{share}
use Rattle.units.proofs.limits.in_force.Reads as LimitsInForce
use Rattle.units.proofs.refusal.in_force.Reads as NumbersInForce
use Rattle.units.proofs.refusal.Reason.number.Reads as Number
use Rattle.units.proofs.share.Share.largest.Reads as Largest
use Rattle.units.proofs.share.Share.smaller.Reads as Smaller
use Rattle.units.proofs.share.Share.rest.Reads as Rest

pub limits_in_force : Settled LimitsInForce.Post
limits_in_force κs a x y e f p q = p ∙ sym q

pub numbers_in_force : Settled NumbersInForce.Post
numbers_in_force κs a x y e f p q = p ∙ sym q

pub largest : Settled Largest.Post
largest κs a x y e f p q = ap share (p ∙ sym q)

pub smaller : Settled Smaller.Post
smaller κs a x y e f p q = ap share (p ∙ sym q)

pub rest : Settled Rest.Post
rest κs a x y e f p q = ap share (p ∙ sym q)

pub number : Settled Number.Post
number κs a x y e f p q = p ∙ sym q
