-- `day_writing::put_spans` meets its contract.
use Rattle.day_writing.proofs.Spans.{start, more}
use Rattle.day_writing.proofs.put_spans.Goals as goal

pub loop-core-init : goal.loop-core-init
loop-core-init c = let s = c.args in start s.goings.now s.seen s.time.0 s.cores _ _ _

pub loop-core-preserved : goal.loop-core-preserved
loop-core-preserved c =
    let s = c.args in
    more s.goings.now s.seen s.time.0 s.cores c.requires.2 c.requires.1 c.loop-core.core c.loop-core-test.true c.loop-core.invariant
    c.going_in-old.ensures c.then-new.ensures c.put_span-end.ensures.windowed c.put_span-end.ensures.upper_bound c.store_going.ensures
