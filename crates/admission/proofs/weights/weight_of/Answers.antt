-- `admission::weights::weight_of` meets its contract.
use Rattle.admission.proofs.Weighing.{weight_exact, weight_le}
use Rattle.admission.proofs.weights.weight_of.Goals as goal

pub returns : goal.returns
returns c =
    let a = c.args in
    (weight_exact a.common a.cost a.period c.requires.0 c.requires.2, weight_le a.common a.cost a.period c.requires.1 c.requires.2)
