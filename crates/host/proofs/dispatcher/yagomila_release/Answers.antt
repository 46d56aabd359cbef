-- `host::dispatcher::yagomila_release` meets its contract.
use mathlib.Core.Path.{ap, ◌∙◌}
use Rattle.dispatch.specs.Release.{Released}
use Rattle.host.proofs.Lent.{release_taken, release_refused}
use Rattle.host.proofs.dispatcher.yagomila_release.Goals as goal

pub returns-in-Ok : goal.returns-in-Ok
returns-in-Ok c =
    let s = c.args in
    let e = release_taken s.held.now s.task s.time s.core.now s.deadline.now (rw c.in-Ok.is at c.release-answer.ensures) in
    (ap (λ (x : Released). x.refusal) e, ap (λ (x : Released). x.next) e, ap (λ (x : Released). x.core) e, ap (λ (x : Released). x.deadline) e)

pub returns-in-Err : goal.returns-in-Err
returns-in-Err c =
    let s = c.args in
    let e = release_refused s.held.now s.task s.time s.core.now s.deadline.now c.in-Err.reason (rw c.in-Err.is at c.release-answer.ensures) in (
      c.number.ensures ∙ ap (λ (x : Released). x.refusal) e,
      ap (λ (x : Released). x.next) e,
      ap (λ (x : Released). x.core) e,
      ap (λ (x : Released). x.deadline) e,
    )
