-- The listed turns of E7 and E8 are the cores of the runs from a fresh plan.
use Prim.Native.Nat.{ℕ, zero, suc, ◌+◌, ◌<◌}
use mathlib.Core.Path.{◌≡◌}
use mathlib.Core.List.{List}
use native.Mathlib.Omega.{arith}
use lib.ListN.{get_or}
use Rattle.turn.specs.Turn.{turns}
use Rattle.turn.specs.Runs.{turn_after, core_of_run}

-- the turn in place i of a list after c runs
pub turns_are : (w : ℕ) (ss : List ℕ) (k c i : ℕ) → i < k → get_or (turns k w ss (turn_after w ss c)) i 0 ≡ core_of_run w ss (i + c)
unfolding turns turn_after core_of_run
turns_are w ss zero c i h = absurd (omega arith)
turns_are w ss (suc k) c zero h = let e : 0 + c ≡ c = omega arith in rw e
turns_are w ss (suc k) c (suc i) h = let e : suc i + c ≡ i + suc c = omega arith in rw e (turns_are w ss k (suc c) i (omega arith))
