-- `state_rules::runs_empty` meets its contract.
use mathlib.Core.Path.{◌≡◌}
use mathlib.Core.Bool.{true}
use Rattle.lists.specs.Below.{all_below}
use Rattle.task_state.specs.State.{run_at}
use Rattle.stored_runs.specs.Run.{run_empty}
use Rattle.state_rules.proofs.runs_empty.Given as goal

-- the runs so far are empty
abbrev pub invariant-loop-k : goal.invariant-loop-k
invariant-loop-k l = all_below l.k (λ j. run_empty (run_at l.state j)) ≡ true
