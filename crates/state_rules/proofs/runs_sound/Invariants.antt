-- `state_rules::runs_sound` meets its contract.
use mathlib.Core.Path.{◌≡◌}
use mathlib.Core.Bool.{true}
use Rattle.lists.specs.Below.{all_below}
use Rattle.state_rules.specs.Sound.{run_rule}
use Rattle.state_rules.proofs.runs_sound.Given as goal

-- the runs so far keep their rules
abbrev pub invariant-loop-k : goal.invariant-loop-k
invariant-loop-k l = all_below l.k (λ j. run_rule l.fn.line l.state j) ≡ true
