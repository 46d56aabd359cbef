-- `scanning::line::read_pair` meets its contract.
use Rattle.scanning.specs.Line.{pair_at}
use Rattle.scanning.proofs.line.read_pair.Goals as goal

pub returns : goal.returns
unfolding pair_at
returns c = c.read_pair_by.ensures
