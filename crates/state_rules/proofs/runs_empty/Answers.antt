-- `state_rules::runs_empty` meets its contract.
use mathlib.Core.Path.{sym, ◌∙◌}
use native.Mathlib.Omega.{arith}
use Rattle.units.specs.Limits.{runs_limit}
use Rattle.lists.proofs.Below.{all_none, all_more, all_fails}
use Rattle.task_state.specs.State.{run_at}
use Rattle.stored_runs.specs.Run.{run_empty}
use Rattle.state_rules.proofs.runs_empty.Goals as goal

pub loop-k-init : goal.loop-k-init
loop-k-init c = all_none _

pub returns-then-not-empty : goal.returns-then-not-empty
returns-then-not-empty c =
    let st = c.args.state in
    let k = c.loop-k.k in
    sym (all_fails runs_limit k (λ j. run_empty (run_at st j)) (omega arith) (sym (rw c.run_of.ensures at c.empty.ensures) ∙ c.if-not-empty.true))

pub loop-k-preserved : goal.loop-k-preserved
loop-k-preserved c = all_more _ _ c.loop-k.invariant (sym (rw c.run_of.ensures at c.empty.ensures) ∙ c.if-not-empty.false)
