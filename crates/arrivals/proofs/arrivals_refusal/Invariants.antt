-- `arrivals::arrivals_refusal` meets its contract.
use Rattle.arrivals.proofs.Tried.{Tried}
use Rattle.arrivals.proofs.arrivals_refusal.Given as goal

abbrev pub invariant-loop-k : goal.invariant-loop-k
invariant-loop-k l = Tried l.plan l.arrivals l.k-end l.k l.before
