-- `dispatch::sound::states_sound` meets its contract.
use Rattle.dispatch.specs.Sound.{state_ok}
use Rattle.lists.proofs.Below.{all_none, all_more, all_fails}
use Rattle.units.specs.Limits.{tasks_limit}
use native.Mathlib.Omega.{arith}
use mathlib.Core.Path.{sym, ◌∙◌}
use Rattle.dispatch.proofs.sound.states_sound.Goals as goal

pub loop-i-init : goal.loop-i-init
loop-i-init c = all_none (state_ok c.args.plan c.args.states)

pub returns-then-not-state_ok : goal.returns-then-not-state_ok
returns-then-not-state_ok c =
    let s = c.args in
    let fails = sym c.state_ok.ensures ∙ c.if-not-state_ok.true in
    sym (all_fails tasks_limit c.loop-i.i (state_ok s.plan s.states) (omega arith) fails)

pub loop-i-preserved : goal.loop-i-preserved
loop-i-preserved c = let s = c.args in all_more c.loop-i.i (state_ok s.plan s.states) c.loop-i.invariant (sym c.state_ok.ensures ∙ c.if-not-state_ok.false)
