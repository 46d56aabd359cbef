-- `host::dispatcher::yagomila_finish` meets its contract.
use mathlib.Core.Path.{ap, ◌∙◌}
use mir.Syntax.{w64}
use mir.ValLaws.{to_z-of_z}
use Rattle.std.proofs.Common.{rules}
use Rattle.dispatch.specs.Finish.{Finished}
use Rattle.host.proofs.Lent.{finish_taken, finish_refused}
use Rattle.host.proofs.dispatcher.yagomila_finish.Goals as goal

pub returns-in-Ok : goal.returns-in-Ok
returns-in-Ok c =
    let s = c.args in
    let e = finish_taken s.held.now s.task s.time s.late.now (rw c.in-Ok.is at c.finish-answer.ensures) in
    (ap (λ (x : Finished). x.refusal) e, ap (λ (x : Finished). x.next) e, to_z-of_z w64 c.in-Ok.ticks (search rules) ∙ ap (λ (x : Finished). x.late) e)

pub returns-in-Err : goal.returns-in-Err
returns-in-Err c =
    let s = c.args in
    let e = finish_refused s.held.now s.task s.time s.late.now c.in-Err.reason (rw c.in-Err.is at c.finish-answer.ensures) in
    (c.number.ensures ∙ ap (λ (x : Finished). x.refusal) e, ap (λ (x : Finished). x.next) e, ap (λ (x : Finished). x.late) e)
