-- `dispatch::Record::finish` meets its contract.
use mathlib.Core.Path.{refl, sym, ◌∙◌}
use native.Mathlib.Omega.{arith}
use Rattle.arith.proofs.Signed.{pos_fits, sub_fits, sub_is}
use Rattle.units.proofs.Refusals.{refuses}
use Rattle.dispatch.specs.Finish.{refuse_finish}
use Rattle.dispatch.proofs.Called.{TaskCall, task_call, task_first}
use Rattle.dispatch.proofs.Answers.{finish_first, finish_refused, finish_taken}
use Rattle.dispatch.proofs.Record.finish.Goals.{In-Ok}
use Rattle.dispatch.proofs.Record.finish.Goals as goal

-- what is known once the first tests are passed
known : (c : In-Ok) → let s = c.args in TaskCall s.self s.task s.time.0
known c = let s = c.args in task_call (sym (task_first s.self s.task s.time.0 c.sound-sound.ensures c.in-Ok.ensures))

pub overflow_sub-i : goal.overflow_sub-i
overflow_sub-i c = omega (arith, (known c).from)

pub offset_bounds-self-i : goal.offset_bounds-self-i
offset_bounds-self-i c = omega (arith, (known c).below)

pub bounds-self-i : goal.bounds-self-i
bounds-self-i c = omega (arith, (known c).below)

pub offset_bounds-self-i-in-Ok : goal.offset_bounds-self-i-in-Ok
offset_bounds-self-i-in-Ok c = omega (arith, (known (goal.at.offset_bounds-self-i-in-Ok c).In-Ok).below)

pub bounds-self-i-in-Ok : goal.bounds-self-i-in-Ok
bounds-self-i-in-Ok c = omega (arith, (known (goal.at.bounds-self-i-in-Ok c).In-Ok).below)

pub finish_tests-requires : goal.finish_tests-requires
finish_tests-requires c = (known (goal.at.finish_tests-requires c).In-Ok).time_in

pub without_run-requires : goal.without_run-requires
without_run-requires c = (known (goal.at.without_run-requires c).In-Ok).can_finish (sym c.in-Ok-finish_tests.ensures)

pub offset_bounds-self-i-in-Ok-finish_tests : goal.offset_bounds-self-i-in-Ok-finish_tests
offset_bounds-self-i-in-Ok-finish_tests c = omega (arith, (known (goal.at.offset_bounds-self-i-in-Ok-finish_tests c).In-Ok).below)

pub bounds-self-i-in-Ok-finish_tests : goal.bounds-self-i-in-Ok-finish_tests
bounds-self-i-in-Ok-finish_tests c = omega (arith, (known (goal.at.bounds-self-i-in-Ok-finish_tests c).In-Ok).below)

pub overflow_cast-answer-in-Ok-finish_tests : goal.overflow_cast-answer-in-Ok-finish_tests
overflow_cast-answer-in-Ok-finish_tests c = pos_fits _ (known (goal.at.overflow_cast-answer-in-Ok-finish_tests c).In-Ok).due_fits

pub overflow_sub-answer : goal.overflow_sub-answer
overflow_sub-answer c = let k = known (goal.at.overflow_sub-answer c).In-Ok in sub_fits _ _ k.time_fits k.due_fits

pub returns-in-Err : goal.returns-in-Err
unfolding refuse_finish
returns-in-Err c =
    let s = c.args in
    let e = task_first s.self s.task s.time.0 c.sound-sound.ensures c.in-Err.ensures in
    sym (finish_refused s.self s.task s.time.0 (finish_first s.self s.task s.time.0 e (λ z. refuses c.in-Err.reason z)) (λ z. refuses c.in-Err.reason z))

pub returns-in-Err-finish_tests : goal.returns-in-Err-finish_tests
unfolding refuse_finish
returns-in-Err-finish_tests c =
    let s = c.args in
    let k = known (goal.at.returns-in-Err-finish_tests c).In-Ok in
    let e = c.in-Err-finish_tests.ensures ∙ sym k.finish_number in
    sym (finish_refused s.self s.task s.time.0 e (λ z. refuses c.in-Err-finish_tests.reason z))

pub returns-in-Ok-finish_tests : goal.returns-in-Ok-finish_tests
returns-in-Ok-finish_tests c =
    let s = c.args in
    let k = known (goal.at.returns-in-Ok-finish_tests c).In-Ok in
    let e = c.in-Ok-finish_tests.ensures ∙ sym k.finish_number in
    sym (finish_taken s.self s.task s.time.0 e refl (sub_is _ _ k.time_fits k.due_fits) c.without_run.ensures)
