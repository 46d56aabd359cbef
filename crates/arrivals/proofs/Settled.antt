-- Any two answers that a public function's contract allows are equal.
use mathlib.Core.Path.{sym, ◌∙◌}
use Rattle.lists.specs.Settled.{Settled}
use Rattle.units.proofs.Refusals.{same_number, same_said}
use Rattle.arrivals.proofs.arrival_tests.Reads as ArrivalTests
use Rattle.arrivals.proofs.arrivals_refusal.Reads as ArrivalsRefusal

pub arrival_tests_lem : Settled ArrivalTests.Post
arrival_tests_lem κs a x y e f p q = same_number x y (p ∙ sym q)

pub arrivals_refusal_lem : Settled ArrivalsRefusal.Post
arrivals_refusal_lem κs a x y e f p q = same_said x y (p ∙ sym q)
