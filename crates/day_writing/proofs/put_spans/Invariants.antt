-- `day_writing::put_spans` meets its contract.
use Rattle.day_writing.proofs.Spans.{Ending}
use Rattle.day_writing.proofs.put_spans.Given as goal

abbrev pub invariant-loop-core : goal.invariant-loop-core
invariant-loop-core l = Ending l.initial.goings l.seen l.time.0 l.cores l.initial.out l.skip l.at l.out l.goings l.end l.core
