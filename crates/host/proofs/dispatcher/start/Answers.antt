-- `host::dispatcher::start` meets its contract.
use mathlib.Core.Path.{refl, ap, ◌∙◌}
use Rattle.units.proofs.Refusals.{refuses}
use Rattle.dispatch.specs.Record.{fresh_of}
use Rattle.host.specs.Dispatcher.{LentStart}
use Rattle.host.proofs.Held.{part}
use Rattle.host.proofs.Started.{start_taken, start_refused}
use Rattle.host.proofs.dispatcher.start.Goals as goal

pub returns-in-Ok : goal.returns-in-Ok
returns-in-Ok c =
    let s = c.args in
    let h = (rw c.in-Ok.is at c.fresh.ensures) ∙ ap (fresh_of s.cores) (part s.table.now c.table_of-read.result c.table_of-read.ensures) in
    let e = start_taken s.held.now s.cores s.table.now h refl in
    (ap (λ (x : LentStart). x.refusal) e, ap (λ (x : LentStart). x.next) e)

pub returns-in-Err : goal.returns-in-Err
returns-in-Err c =
    let s = c.args in
    let h = (rw c.in-Err.is at c.fresh.ensures) ∙ ap (fresh_of s.cores) (part s.table.now c.table_of-read.result c.table_of-read.ensures) in
    let e = start_refused s.held.now s.cores s.table.now h (λ z. refuses c.in-Err.refusal.reason z) in
    (c.number.ensures ∙ ap (λ (x : LentStart). x.refusal) e, ap (λ (x : LentStart). x.next) e)
