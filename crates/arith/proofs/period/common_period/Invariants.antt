-- `arith::period::common_period` meets its contract: at each turn the periods that are left give the answer of the whole table.
use Prim.Native.Nat.{◌+◌}
use mathlib.Core.Path.{◌≡◌}
use lib.ListN.{drop}
use Rattle.arith.specs.Period.{periods, period_from, period_of}
use Rattle.arith.proofs.period.common_period.Given as goal

abbrev pub invariant-loop-k : goal.invariant-loop-k
invariant-loop-k l = period_from l.l (l.k + 1) (drop l.k (periods l.table)) ≡ period_of (periods l.table)
