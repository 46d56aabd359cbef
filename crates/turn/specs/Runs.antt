-- A task's runs counted from a fresh plan: the core of each is a function of the task's shares and of its number alone.
use Rattle.std.specs.Prelude.{ℕ, zero, suc, List}
use Rattle.turn.specs.declared.Turn.{Turn}
use Rattle.turn.specs.Turn.{fresh, next_turn}

-- counts and place after c accepted runs
unfoldable pub turn_after : ℕ → List ℕ → ℕ → Turn
turn_after w ss zero = fresh
turn_after w ss (suc c) = next_turn w ss (turn_after w ss c)

-- the core of run number c, counted from 0
unfoldable pub core_of_run : ℕ → List ℕ → ℕ → ℕ
core_of_run w ss c = (turn_after w ss (suc c)).core
