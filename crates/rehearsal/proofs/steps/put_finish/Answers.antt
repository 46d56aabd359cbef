-- `rehearsal::steps::put_finish` meets its contract.
use mathlib.Core.Path.{refl, ap}
use lib.IntN.{ℤ}
use mir.Syntax.{w64}
use mir.Val.{SFits}
use mir.ValLaws.{to_z-of_z}
use Rattle.day_lines.specs.declared.Ran.{Ran}
use Rattle.day_lines.specs.declared.Event.TheVariants.{Finished}
use Rattle.day_window.proofs.Saying.{told}
use borrow.Author.Rules.{rules}
use Rattle.rehearsal.proofs.steps.put_finish.Goals as goal

pub returns-clause-windowed : goal.returns-clause-windowed
returns-clause-windowed c =
    let s = c.args in
    let f : SFits w64 s.ended.late = search rules in
    let ran : Ran = record { core = s.core; task = s.run.task; run = s.run.run } in
    told refl c.put_within.ensures.windowed (ap (λ (z : ℤ). Finished ran s.time z) (to_z-of_z w64 s.ended.late f))
