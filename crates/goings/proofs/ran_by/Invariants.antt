-- `goings::ran_by` meets its contract.
use mathlib.Core.Path.{◌≡◌}
use Rattle.goings.specs.Going.{ran_by}
use Rattle.goings.specs.Rows.{goings_in}
use Rattle.goings.proofs.ran_by.Given as goal

abbrev pub invariant-loop-core : goal.invariant-loop-core
invariant-loop-core l = l.had ≡ ran_by (goings_in l.goings) l.more l.initial.had l.core
