-- `instants::least_left` meets its contract.
use mathlib.Core.Path.{◌≡◌}
use Rattle.instants.specs.Seen.{least_left}
use Rattle.instants.proofs.least_left.Given as goal

abbrev pub invariant-loop-one : goal.invariant-loop-one
invariant-loop-one l = l.least ≡ least_left l.fn.seen l.most l.one-index
