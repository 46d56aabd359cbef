use Rattle.host.proofs.Numbers.{Filling}
use Rattle.host.proofs.bytes.numbers_of.Given as goal

-- the first k numbers stand, zeros after them
abbrev pub invariant-loop-k : goal.invariant-loop-k
invariant-loop-k l = Filling l.bytes l.numbers l.k
