-- `planning::lines_of` meets its contract.
use Rattle.planning.proofs.Filling.{Filling}
use Rattle.assignment.specs.Passes.{rows_of}
use Rattle.units.specs.Units.{nums}
use Rattle.planning.proofs.lines_of.Given as goal

abbrev pub invariant-loop-k : goal.invariant-loop-k
invariant-loop-k l = Filling l.table (nums l.weights) (rows_of l.rows) l.lines l.k
