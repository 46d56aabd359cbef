-- `dispatch::Record::look_in_numbers` meets its contract.
use Rattle.dispatch.specs.Look.{best_of, at_time}
use mathlib.Core.Path.{◌≡◌}
use Rattle.dispatch.proofs.Record.look_in_numbers.Given as goal

abbrev pub invariant-loop-i : goal.invariant-loop-i
invariant-loop-i l = l.best ≡ best_of (at_time l.self l.time.0) l.core l.i
