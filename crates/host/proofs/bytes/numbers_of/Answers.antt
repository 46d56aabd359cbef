-- `host::bytes::numbers_of` meets its contract.
use native.Mathlib.Omega.{arith}
use Rattle.host.proofs.Numbers.{step, finish}
use Rattle.host.proofs.bytes.numbers_of.Goals as goal

pub loop-k-preserved : goal.loop-k-preserved
loop-k-preserved c =
    step c.args.bytes.now c.loop-k.numbers c.loop-k.k c.number32.result c.loop-k.invariant (omega arith) (omega (arith, c.requires)) c.number32.ensures

pub returns : goal.returns
returns c = finish c.args.bytes.now c.loop-k.numbers c.loop-k.k c.loop-k.invariant (omega arith) (omega (arith, c.requires))
