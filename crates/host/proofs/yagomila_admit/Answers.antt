-- `host::yagomila_admit` meets its contract.
use mathlib.Core.Path.{ap, ◌∙◌}
use Rattle.admission.specs.Admission.{admission_of, refused_with}
use Rattle.host.proofs.Held.{part}
use Rattle.host.proofs.Answers.{admitted}
use Rattle.host.proofs.yagomila_admit.Goals as goal

pub returns-in-Ok : goal.returns-in-Ok
returns-in-Ok c =
    let s = c.args in
    admitted s.cores s.table.now _
    ((rw c.in-Ok.is at c.admit.ensures) ∙ ap (admission_of s.cores) (part s.table.now c.table_of-held.result c.table_of-held.ensures))

pub returns-in-Err : goal.returns-in-Err
unfolding refused_with
returns-in-Err c =
    let s = c.args in
    c.number.ensures ∙ admitted s.cores s.table.now _
    ((rw c.in-Err.is at c.admit.ensures) ∙ ap (admission_of s.cores) (part s.table.now c.table_of-held.result c.table_of-held.ensures))
