-- Any two answers that a public function's contract allows are equal.
use mathlib.Core.Path.{sym, ◌∙◌}
use Rattle.lists.specs.Settled.{Settled}
use Rattle.units.proofs.Refusals.{same_number}
use Rattle.task_state.proofs.due.due_after.Reads as DueAfter
use Rattle.task_state.proofs.State.release_tests.Reads as ReleaseTests
use Rattle.task_state.proofs.State.finish_tests.Reads as FinishTests
use Rattle.task_state.proofs.State.with_run.Reads as WithRun
use Rattle.task_state.proofs.State.without_run.Reads as WithoutRun
use Rattle.task_state.proofs.State.waits.Reads as Waits
use Rattle.task_state.proofs.State.key.Reads as Key

pub due_after_lem : Settled DueAfter.Post
due_after_lem κs a x y e f p q = p ∙ sym q

pub release_tests_lem : Settled ReleaseTests.Post
release_tests_lem κs a x y e f p q = same_number x y (p ∙ sym q)

pub finish_tests_lem : Settled FinishTests.Post
finish_tests_lem κs a x y e f p q = same_number x y (p ∙ sym q)

pub with_run_lem : Settled WithRun.Post
with_run_lem κs a x y e f p q = p ∙ sym q

pub without_run_lem : Settled WithoutRun.Post
without_run_lem κs a x y e f p q = p ∙ sym q

pub waits : Settled Waits.Post
waits κs a x y e f p q = p ∙ sym q

pub key : Settled Key.Post
key κs a x y e f p q = p ∙ sym q
