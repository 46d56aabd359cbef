-- `sheet_answer::sheet::answer_sheet` meets its contract.
use mathlib.Core.Path.{refl}
use borrow.Author.Rules.{rules}
use Rattle.units.proofs.Refusals.{refuses}
use Rattle.writing.proofs.Wrote.{recast}
use Rattle.sheet_reading.specs.Read.{unread}
use Rattle.sheet_answer.specs.Answers.{named_listing, sheet_text}
use Rattle.sheet_answer.proofs.Answered.{listable, answer_no, answer_is}
use Rattle.sheet_answer.proofs.sheet.answer_sheet.Goals as goal

pub put_taken-requires : goal.put_taken-requires
put_taken-requires c = (listable _ c.in-Ok.ensures refl, search rules)

pub returns-in-Ok-clause-wrote : goal.returns-in-Ok-clause-wrote
unfolding sheet_text
returns-in-Ok-clause-wrote c = recast (answer_is named_listing c.in-Ok.ensures refl) c.put_taken.ensures.wrote

pub returns-in-Err-clause-wrote : goal.returns-in-Err-clause-wrote
unfolding sheet_text unread
returns-in-Err-clause-wrote c = recast (answer_no named_listing c.in-Err.ensures (λ z. refuses c.in-Err.refusal.reason z)) c.put_refusal.ensures.wrote
