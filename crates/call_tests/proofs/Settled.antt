-- Any two answers that a public function's contract allows are equal.
use mathlib.Core.Path.{sym, ◌∙◌}
use Rattle.lists.specs.Settled.{Settled}
use Rattle.units.proofs.Refusals.{same_number}
use Rattle.call_tests.proofs.shared_tests.Reads as SharedTests
use Rattle.call_tests.proofs.shared_number.Reads as SharedNumber
use Rattle.call_tests.proofs.release_tests.Reads as ReleaseTests
use Rattle.call_tests.proofs.finish_tests.Reads as FinishTests

pub shared_tests_lem : Settled SharedTests.Post
shared_tests_lem κs a x y e f p q = same_number x y (p ∙ sym q)

pub shared_number_lem : Settled SharedNumber.Post
shared_number_lem κs a x y e f p q = p ∙ sym q

pub release_tests_lem : Settled ReleaseTests.Post
release_tests_lem κs a x y e f p q = same_number x y (p ∙ sym q)

pub finish_tests_lem : Settled FinishTests.Post
finish_tests_lem κs a x y e f p q = same_number x y (p ∙ sym q)
