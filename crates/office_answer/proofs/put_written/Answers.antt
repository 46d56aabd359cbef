-- `office_answer::put_written` meets its contract.
use mathlib.Core.Path.{refl}
use Rattle.units.proofs.Refusals.{refuses}
use Rattle.office_answer.proofs.Texts.{refused_wrote, taken_wrote, taken_short}
use Rattle.office_answer.proofs.put_written.Goals as goal

pub returns-in-Ok : goal.returns-in-Ok
returns-in-Ok c =
    let s = c.args in
    let e = c.in-Ok.ensures in
    record {
      wrote = taken_wrote s.cores s.table.now s.names.now s.tick s.out.now e.value e.buf_after refl;
      upper_bound = taken_short s.cores s.table.now s.names.now s.tick s.out.now e.value e.buf_after;
    }

pub returns-in-Err-clause-wrote : goal.returns-in-Err-clause-wrote
returns-in-Err-clause-wrote c =
    let s = c.args in
    let e = c.in-Err.ensures in
    refused_wrote s.cores s.table.now s.names.now s.tick s.out.now e.value e.buf_after (λ z. refuses c.in-Err.refusal.reason z)
    c.put_refusal.ensures.wrote
