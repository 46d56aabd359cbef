-- `plan_answer::put_table` meets its contract.
use mathlib.Core.Path.{refl}
use Rattle.units.proofs.Refusals.{refuses}
use Rattle.plan_answer.proofs.Texts.{refused_wrote, taken_wrote, taken_short}
use Rattle.plan_answer.proofs.put_table.Goals as goal

pub returns-in-Ok : goal.returns-in-Ok
returns-in-Ok c =
    let s = c.args in
    let e = c.in-Ok.ensures in
    record {
      wrote = taken_wrote s.cores s.table.now s.out.now e.value e.buf_after refl;
      upper_bound = taken_short s.cores s.table.now s.out.now e.value e.buf_after;
    }

pub returns-in-Err-clause-wrote : goal.returns-in-Err-clause-wrote
returns-in-Err-clause-wrote c =
    let s = c.args in
    let r = c.in-Err.refusal in
    let e = c.in-Err.ensures in
    refused_wrote s.cores s.table.now s.out.now e.value e.buf_after (λ z. refuses r.reason z) c.put_refusal.ensures.wrote
