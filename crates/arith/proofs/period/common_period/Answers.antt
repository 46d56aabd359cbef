-- `arith::period::common_period` meets its contract: at each turn the periods that are left give the answer of the whole table.
use mathlib.Core.Path.{refl, sym, ◌∙◌}
use native.Mathlib.Omega.{arith}
use Rattle.arith.specs.Period.{period_of}
use Rattle.arith.proofs.Table.{period_next, period_stop, period_end}
use Rattle.arith.proofs.period.common_period.Goals as goal

pub loop-k-init : goal.loop-k-init
unfolding period_of
loop-k-init c = refl

pub returns-then-m : goal.returns-then-m
returns-then-m c =
    let s = c.loop-k in
    sym (period_stop c.args.table.now s.l c.lcm-m.result s.k (omega arith) c.lcm-m.ensures (omega arith)) ∙ s.invariant

pub loop-k-preserved : goal.loop-k-preserved
loop-k-preserved c =
    let s = c.loop-k in
    sym (period_next c.args.table.now s.l c.lcm-m.result s.k (omega arith) c.lcm-m.ensures (omega arith)) ∙ s.invariant

pub returns : goal.returns
returns c =
    let s = c.loop-k in
    sym (period_end c.args.table.now s.l s.k (omega arith)) ∙ s.invariant
