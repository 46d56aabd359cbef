-- A stored run.
use Rattle.std.specs.Prelude.{ℕ, Bool, ◌&&◌, eqb}
use Rattle.units.specs.Units.{ticks}
use Rattle.stored_runs.specs.declared.Run.{Run}

-- a run on core k, from 1, due at d
abbrev pub run : ℕ → ℕ → Run
run k d = record { core = k; deadline = ticks d }

-- past the unfinished runs all numbers are 0
abbrev pub run_empty : Run → Bool
run_empty run = eqb run.core 0 && eqb run.deadline.0 0
