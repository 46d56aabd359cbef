-- `player::answers::put_mover` meets its contract.
use Rattle.writing.proofs.Wrote.{recast}
use Rattle.player.proofs.Texts.{upper, lower}
use Rattle.player.proofs.answers.put_mover.Goals as goal

pub returns-in-Upper-clause-wrote : goal.returns-in-Upper-clause-wrote
returns-in-Upper-clause-wrote c =
    recast (upper _ _ c.in-Upper.is) c.put_chosen.ensures.wrote

pub returns-in-Lower-clause-wrote : goal.returns-in-Lower-clause-wrote
returns-in-Lower-clause-wrote c =
    recast (lower _ _ c.in-Lower.is) c.put_chosen-in-Lower.ensures.wrote
