-- `host::dispatcher::yagomila_list` meets its contract.
use Prim.Native.Nat.{◌≤◌}
use mathlib.Core.Path.{refl, ap, ◌∙◌}
use native.Mathlib.Omega.{arith}
use mir.Syntax.{w64}
use mir.ValLaws.{to_z_pos}
use Rattle.units.proofs.Refusals.{refuses}
use Rattle.listing.specs.Listed.{listing_limit}
use Rattle.host.specs.Dispatcher.{LentList}
use Rattle.host.proofs.Listed.{list_taken, list_refused}
use Rattle.host.proofs.dispatcher.yagomila_list.Goals.{In-Ok}
use Rattle.host.proofs.dispatcher.yagomila_list.Goals as goal

short : (c : In-Ok) → c.in-Ok.length ≤ listing_limit
short c = rw c.in-Ok.is at c.listed.ensures.short

pub overflow_cast-len : goal.overflow_cast-len
overflow_cast-len c = record { sfits = omega (arith, short c) }

pub returns-in-Ok : goal.returns-in-Ok
returns-in-Ok c =
    let s = c.args in
    let e =
    list_taken s.held.now s.buf.now s.len.now (rw c.in-Ok.is at c.listed.ensures.value)
    (to_z_pos w64 c.in-Ok.length (omega (arith, short c))) refl in
    (ap (λ (x : LentList). x.refusal) e, c.listed.ensures.buf_after, ap (λ (x : LentList). x.len) e)

pub returns-in-Err : goal.returns-in-Err
returns-in-Err c =
    let s = c.args in
    let e =
    list_refused s.held.now s.buf.now s.len.now (rw c.in-Err.is at c.listed.ensures.value) refl (λ z. refuses c.in-Err.refused.reason z) in
    (c.number.ensures ∙ ap (λ (x : LentList). x.refusal) e, c.listed.ensures.buf_after, ap (λ (x : LentList). x.len) e)
