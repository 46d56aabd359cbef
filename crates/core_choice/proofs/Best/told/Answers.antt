-- `core_choice::Best::told` meets its contract.
use lib.ListN.{get_or}
use Rattle.units.specs.Units.{ticks}
use Rattle.core_choice.proofs.Numbers.{best_told}
use Rattle.core_choice.proofs.Best.told.Goals as goal

pub returns : goal.returns
returns c =
    best_told c.args.self (get_or c.args.state.deadlines 0 (ticks 0)) c.requires c.kind_of.ensures
