-- `dispatch::Record::release` meets its contract.
use mathlib.Core.Path.{refl, sym, ◌∙◌}
use native.Mathlib.Omega.{arith}
use Rattle.units.proofs.Refusals.{refuses}
use Rattle.dispatch.specs.Release.{refuse_release}
use Rattle.dispatch.proofs.Called.{TaskCall, task_call, task_first}
use Rattle.dispatch.proofs.Answers.{release_first, release_refused, release_taken}
use Rattle.dispatch.proofs.Record.release.Goals.{In-Ok}
use Rattle.dispatch.proofs.Record.release.Goals as goal

-- what is known once the first tests are passed
known : (c : In-Ok) → let s = c.args in TaskCall s.self s.task s.time.0
known c = let s = c.args in task_call (sym (task_first s.self s.task s.time.0 c.sound-sound.ensures c.in-Ok.ensures))

pub overflow_sub-i : goal.overflow_sub-i
overflow_sub-i c = omega (arith, (known c).from)

pub offset_bounds-self-i : goal.offset_bounds-self-i
offset_bounds-self-i c = omega (arith, (known c).below)

pub bounds-self-i : goal.bounds-self-i
bounds-self-i c = omega (arith, (known c).below)

pub offset_bounds-self-i-in-Ok : goal.offset_bounds-self-i-in-Ok
offset_bounds-self-i-in-Ok c = omega (arith, (known (goal.at.offset_bounds-self-i-in-Ok c).In-Ok).below)

pub bounds-self-i-in-Ok : goal.bounds-self-i-in-Ok
bounds-self-i-in-Ok c = omega (arith, (known (goal.at.bounds-self-i-in-Ok c).In-Ok).below)

pub release_tests-requires : goal.release_tests-requires
release_tests-requires c = (known (goal.at.release_tests-requires c).In-Ok).last

pub with_run-taken-requires : goal.with_run-taken-requires
with_run-taken-requires c = (known (goal.at.with_run-taken-requires c).In-Ok).can_release (sym c.in-Ok-release_tests.ensures)

pub offset_bounds-self-i-in-Ok-release_tests : goal.offset_bounds-self-i-in-Ok-release_tests
offset_bounds-self-i-in-Ok-release_tests c = omega (arith, (known (goal.at.offset_bounds-self-i-in-Ok-release_tests c).In-Ok).below)

pub bounds-self-i-in-Ok-release_tests : goal.bounds-self-i-in-Ok-release_tests
bounds-self-i-in-Ok-release_tests c = omega (arith, (known (goal.at.bounds-self-i-in-Ok-release_tests c).In-Ok).below)

pub returns-in-Err : goal.returns-in-Err
unfolding refuse_release
returns-in-Err c =
    let s = c.args in
    let e = task_first s.self s.task s.time.0 c.sound-sound.ensures c.in-Err.ensures in
    sym (release_refused s.self s.task s.time.0 (release_first s.self s.task s.time.0 e (λ z. refuses c.in-Err.reason z)) (λ z. refuses c.in-Err.reason z))

pub returns-in-Err-release_tests : goal.returns-in-Err-release_tests
unfolding refuse_release
returns-in-Err-release_tests c =
    let s = c.args in
    let k = known (goal.at.returns-in-Err-release_tests c).In-Ok in
    let e = c.in-Err-release_tests.ensures ∙ sym k.release_number in
    sym (release_refused s.self s.task s.time.0 e (λ z. refuses c.in-Err-release_tests.reason z))

pub returns-in-Ok-release_tests : goal.returns-in-Ok-release_tests
returns-in-Ok-release_tests c =
    let s = c.args in
    let k = known (goal.at.returns-in-Ok-release_tests c).In-Ok in
    let e = c.in-Ok-release_tests.ensures ∙ sym k.release_number in
    sym (release_taken s.self s.task s.time.0 e refl c.with_run-taken.ensures)
