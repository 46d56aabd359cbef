-- `player::answers::put_answer` meets its contract.
use mathlib.Core.Path.{◌≡◌, sym, ap, ◌∙◌}
use mathlib.Core.List.{◌++◌}
use mir.Syntax.{w64}
use mir.Val.{SFits}
use mir.ValLaws.{to_z-of_z}
use Rattle.writing.specs.Ascii.{ascii}
use Rattle.writing.specs.Decimal.{signed_of}
use Rattle.writing.specs.Field.{line_end}
use Rattle.writing.specs.Refused.{refusal_text}
use Rattle.writing.proofs.Wrote.{then, recast}
use Rattle.std.specs.declared.result.Result.{Result}
use Rattle.std.specs.declared.result.Result.TheVariants.{Ok}
use Rattle.units.specs.declared.refusal.Reason.{Reason}
use Rattle.dispatch.specs.declared.call.Answer.{Answer}
use Rattle.dispatch.specs.declared.call.Answer.TheVariants as Taken
use Rattle.dispatch.specs.Calls.{call_told}
use Rattle.player.specs.Answers.{answer_line}
use borrow.Author.Rules.{rules}
use Rattle.player.proofs.answers.put_answer.Goals as goal

-- the line of a call that is taken
taken_line : {x : Result Answer Reason} {w : Answer} → x ≡ Ok w → answer_line (call_told (Ok w)) ≡ answer_line (call_told x)
taken_line e = sym (ap (λ (a : Result Answer Reason). answer_line (call_told a)) e)

pub returns-in-Err-clause-wrote : goal.returns-in-Err-clause-wrote
unfolding answer_line
returns-in-Err-clause-wrote c =
    recast (ap refusal_text c.from.ensures ∙ sym (ap (λ a. answer_line (call_told a)) c.in-Err.is)) c.put_refusal.ensures.wrote

pub returns-in-Ok-Released-clause-wrote : goal.returns-in-Ok-Released-clause-wrote
unfolding answer_line
returns-in-Ok-Released-clause-wrote c =
    let w = then (then c.put_field-a.ensures.wrote c.put_field-b.ensures.wrote) c.put_byte.ensures in
    recast (taken_line {w = Taken.Released c.in-Ok-Released.core c.in-Ok-Released.deadline} (search rules)) w

pub returns-in-Ok-Finished-clause-wrote : goal.returns-in-Ok-Finished-clause-wrote
unfolding answer_line
returns-in-Ok-Finished-clause-wrote c =
    let z = c.in-Ok-Finished.late in
    let f : SFits w64 z = search rules in
    let e = ap (λ l. ascii "late " ++ signed_of l ++ line_end) (to_z-of_z w64 z f) ∙ taken_line {w = Taken.Finished c.in-Ok-Finished.late} (search rules) in
    recast e (then (then c.put_text-a.ensures c.put_signed-b.ensures.wrote) c.put_byte-in-Ok-Finished.ensures)

pub returns-in-Ok-Looked-clause-wrote : goal.returns-in-Ok-Looked-clause-wrote
unfolding answer_line
returns-in-Ok-Looked-clause-wrote c =
    recast (taken_line {w = Taken.Looked c.in-Ok-Looked.choice} (search rules)) (then c.put_choice-a.ensures.wrote c.put_byte-in-Ok-Looked.ensures)
