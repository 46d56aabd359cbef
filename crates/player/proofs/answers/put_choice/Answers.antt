-- `player::answers::put_choice` meets its contract.
use mathlib.Core.Path.{sym, ap}
use Rattle.writing.proofs.Wrote.{recast}
use Rattle.player.specs.Answers.{choice_text}
use Rattle.player.proofs.answers.put_choice.Goals as goal

pub returns-in-Idle-clause-wrote : goal.returns-in-Idle-clause-wrote
unfolding choice_text
returns-in-Idle-clause-wrote c =
    recast (sym (ap choice_text c.in-Idle.is)) c.put_text.ensures

pub returns-in-Fixed-clause-wrote : goal.returns-in-Fixed-clause-wrote
unfolding choice_text
returns-in-Fixed-clause-wrote c =
    recast (sym (ap choice_text c.in-Fixed.is)) c.put_chosen.ensures.wrote

pub returns-in-Mover-clause-wrote : goal.returns-in-Mover-clause-wrote
unfolding choice_text
returns-in-Mover-clause-wrote c =
    recast (sym (ap choice_text c.in-Mover.is)) c.put_mover.ensures.wrote
