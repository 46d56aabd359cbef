-- `host::dispatcher::yagomila_look` meets its contract.
use mathlib.Core.Path.{ap, ◌∙◌}
use Rattle.dispatch.specs.Look.{LookedTold}
use Rattle.host.proofs.Lent.{look_taken, look_refused}
use Rattle.host.proofs.dispatcher.yagomila_look.Goals as goal

pub returns-in-Ok : goal.returns-in-Ok
returns-in-Ok c =
    let s = c.args in
    let e = look_taken s.held.now s.core s.time s.choice.now (rw c.in-Ok.is at c.look_in_numbers-answer.ensures) in
    (ap (λ (x : LookedTold). x.refusal) e, ap (λ (x : LookedTold). x.next) e, ap (λ (x : LookedTold). x.told) e)

pub returns-in-Err : goal.returns-in-Err
returns-in-Err c =
    let s = c.args in
    let e = look_refused s.held.now s.core s.time s.choice.now c.in-Err.reason (rw c.in-Err.is at c.look_in_numbers-answer.ensures) in
    (c.number.ensures ∙ ap (λ (x : LookedTold). x.refusal) e, ap (λ (x : LookedTold). x.next) e, ap (λ (x : LookedTold). x.told) e)
