-- `listing::listed::list` meets its contract.
use mathlib.Core.Path.{sym, ap, ◌∙◌}
use Rattle.dispatch.proofs.SoundFacts.{sound_facts}
use Rattle.listing.specs.Listed.{unlisted}
use Rattle.listing.proofs.Answers.{unsound, sound}
use Rattle.listing.proofs.listed.list.Goals as goal

pub returns-then-not-sound : goal.returns-then-not-sound
returns-then-not-sound c =
    let a = unsound c.args.from c.args.buf.now (sym c.sound.ensures ∙ c.if-not-sound.true) in
    record { value = ap unlisted c.from.ensures ∙ a.0; buf_after = a.1 }

pub list_plan-requires : goal.list_plan-requires
list_plan-requires c =
    (sound_facts c.args.from (sym c.sound.ensures ∙ c.if-not-sound.false)).plan

pub returns : goal.returns
returns c =
    let a = sound c.args.from c.args.buf.now (sym c.sound.ensures ∙ c.if-not-sound.false) c.list_plan.ensures.value c.list_plan.ensures.buf_after in
    record { value = a.0; buf_after = a.1 }
