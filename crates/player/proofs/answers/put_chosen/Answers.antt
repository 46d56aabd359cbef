-- `player::answers::put_chosen` meets its contract.
use Rattle.writing.proofs.Wrote.{then}
use Rattle.player.proofs.answers.put_chosen.Goals as goal

pub returns-clause-wrote : goal.returns-clause-wrote
returns-clause-wrote c =
    then c.put_field-a.ensures.wrote c.put_field.ensures.wrote
