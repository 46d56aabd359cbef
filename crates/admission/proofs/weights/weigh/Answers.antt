-- `admission::weights::weigh` meets its contract.
use native.Mathlib.Omega.{arith}
use Rattle.units.specs.Units.{nums}
use Rattle.units.proofs.Units.{nums_set}
use Rattle.admission.proofs.Weighing.{start, step, sum_small, finish}
use Rattle.admission.proofs.weights.weigh.Goals as goal

pub loop-k-init : goal.loop-k-init
loop-k-init c = start _ _

pub weight_of-w-requires : goal.weight_of-w-requires
weight_of-w-requires c =
    let k = c.loop-k.k in
    (c.requires.some k (omega arith), c.requires.fits k (omega arith), c.requires.divides k (omega arith))

pub loop-k-preserved : goal.loop-k-preserved
loop-k-preserved c =
    let l = c.loop-k in
    let w = c.weight_of-w in
    rw (nums_set l.weights l.k w.result)
    (step c.args.common c.args.table.now (nums l.weights) l.sum.0 l.k w.result.0 l.invariant (omega arith)
    (omega (arith, c.requires.short)) w.ensures.0 w.ensures.1)

pub returns : goal.returns
returns c =
    let l = c.loop-k in
    finish c.args.common c.args.table.now (nums l.weights) l.sum.0 l.k l.invariant (omega arith) (omega (arith, c.requires.short))

pub overflow_add-sum : goal.overflow_add-sum
overflow_add-sum c =
    let l = c.loop-k in
    omega (
      arith,
      c.weight_of-w.ensures.1,
      c.requires.within,
      sum_small c.args.common c.args.table.now (nums l.weights)
          l.sum.0 l.k l.invariant (omega (arith, c.requires.short)) c.requires.within,
    )
