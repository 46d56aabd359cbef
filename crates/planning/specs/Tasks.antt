-- What a plan says of a task, as demand 3 speaks of it. Tasks and cores are counted from 1.
use Rattle.std.specs.Prelude.{ℕ, ◌-◌, List, get_or}
use Rattle.planning.specs.declared.Line.{Line}
use Rattle.planning.specs.declared.Plan.{Plan}
use Rattle.planning.specs.Plan.{no_line, row_of}

-- task i's line
abbrev pub task_line : Plan → ℕ → Line
task_line pl i = get_or pl.lines (i - 1) no_line

-- its weight
abbrev pub task_weight : Plan → ℕ → ℕ
task_weight pl i = (task_line pl i).weight.0

-- its shares
abbrev pub task_shares : Plan → ℕ → List ℕ
task_shares pl i = row_of (task_line pl i)

-- its share on core p
abbrev pub task_share : Plan → ℕ → ℕ → ℕ
task_share pl i p = get_or (task_shares pl i) (p - 1) 0
