-- `arrivals::arrivals_refusal` meets its contract.
use mathlib.Core.Path.{◌≡◌, refl}
use lib.ListN.{length}
use Rattle.units.specs.Limits.{tasks_limit}
use Rattle.units.proofs.Refusals.{refuses}
use Rattle.arrivals.specs.Arrivals.{arrival_cost}
use Rattle.arrivals.proofs.Tried.{start, cost_read, cost_none, tests_are, more, refused, all}
use borrow.Author.Rules.{rules}
use Rattle.arrivals.proofs.arrivals_refusal.Goals.{Joined-i-lt-TASKS, then-i-lt-TASKS, else-i-lt-TASKS}
use Rattle.arrivals.proofs.arrivals_refusal.Goals as goal

-- the cost that is tested is that of the arrival's task
cost_is : (c : Joined-i-lt-TASKS) → c.if-i-lt-TASKS.cost ≡ arrival_cost c.args.plan c.args.arrivals.now c.loop-k.k
cost_is c =
    let long : length c.args.plan.lines ≡ tasks_limit = search rules in
    elim c.if-i-lt-TASKS.branch [
      | then-i-lt-TASKS w ↦ cost_read c.args.plan.lines c.saturating_sub-i.ensures w.cost-is
      | else-i-lt-TASKS w ↦ cost_none c.args.plan.lines c.saturating_sub-i.ensures long w.if-i-lt-TASKS.false w.cost-is
    ]

pub loop-k-init : goal.loop-k-init
loop-k-init c = start _ _ _

pub returns-in-Err : goal.returns-in-Err
returns-in-Err c =
    let h = c.loop-k.invariant in
    refused _ _ _ _ _ h c.loop-k-test.true (tests_are _ _ _ _ _ h
    (cost_is (goal.at.returns-in-Err c).Joined-i-lt-TASKS) c.in-Err.ensures) (λ z. refuses c.in-Err.reason z)

pub loop-k-preserved : goal.loop-k-preserved
loop-k-preserved c =
    let h = c.loop-k.invariant in
    more _ _ _ _ _ h c.loop-k-test.true (tests_are _ _ _ _ _ h (cost_is (goal.at.loop-k-preserved c).Joined-i-lt-TASKS) c.in_default.ensures) refl

pub returns : goal.returns
returns c = all _ _ _ _ _ c.loop-k.invariant c.loop-k-test.false
