-- `host::answer_of` meets its contract.
use mathlib.Core.Path.{refl, ◌∙◌, ap}
use mir.Syntax.{w64}
use mir.ValLaws.{to_z-of_z, to_z_pos}
use Rattle.std.proofs.Common.{rules}
use Rattle.units.specs.Refusals.{told}
use Rattle.units.proofs.Refusals.{refuses}
use Rattle.listing.specs.Listed.{unlisted, listed_whole}
use Rattle.host.specs.Host.{negative}
use Rattle.host.proofs.Answers.{answered_no, answered_length}
use Rattle.host.proofs.answer_of.Goals as goal

pub returns-in-Err : goal.returns-in-Err
returns-in-Err c =
    rw c.in-Err.is (to_z-of_z w64 c.negative.result (search rules)
    ∙ c.negative.ensures
    ∙ ap negative c.number.ensures
    ∙ answered_no (unlisted (told c.in-Err.refusal)) (λ z. refuses c.in-Err.refusal.reason z))

pub returns-in-Ok : goal.returns-in-Ok
returns-in-Ok c = rw c.in-Ok.is (to_z_pos w64 c.in-Ok.length (rw c.in-Ok.is at c.requires) ∙ answered_length (listed_whole c.in-Ok.length) refl)
