-- How many of a task's runs go to a core, counted from a fresh plan.
use Prim.Native.Nat.{ℕ, zero, suc, ◌+◌}
use mathlib.Core.List.{List}
use lib.Dec.{eqb}
use Rattle.lists.specs.Lists.{bit}
use Rattle.turn.specs.Runs.{core_of_run}

-- of the first c runs, to core p, counted from 1
unfoldable pub sent : ℕ → List ℕ → ℕ → ℕ → ℕ
sent w ss p zero = 0
sent w ss p (suc c) = sent w ss p c + bit (eqb (core_of_run w ss c) p)
