-- `call_tests::shared_number` meets its contract.
use borrow.Author.Rules.{rules}
use mathlib.Core.Path.{◌≡◌, ap, ◌∙◌}
use Rattle.units.specs.Refusals.{task_no, number}
use Rattle.call_tests.proofs.InPlace.{there, elsewhere}
use Rattle.call_tests.proofs.shared_number.Goals as goal

pub returns-in-Err-Task : goal.returns-in-Err-Task
returns-in-Err-Task c =
    let s = c.args in
    there s.sound s.wrong s.n s.i s.clock.0 s.time.0 c.in-Err-Task.ensures (ap number c.in-Err-Task.field-0-is)

pub returns-in-Err : goal.returns-in-Err
returns-in-Err c =
    let s = c.args in
    let other : number c.in-Err.reason ≡ task_no → ⊥ = search rules in
    c.number.ensures ∙ elsewhere s.sound s.wrong s.n s.i s.clock.0 s.time.0 c.in-Err.ensures other
