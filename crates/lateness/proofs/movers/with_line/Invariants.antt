-- `lateness::movers::with_line` meets its contract: on each core that is passed the line stands where it is an upper mover.
use Rattle.units.specs.Units.{nums}
use Rattle.task_shares.specs.Movers.{upper}
use Rattle.lateness.specs.Inner.{mover_on}
use Rattle.lateness.proofs.Front.{Front}
use Rattle.lateness.proofs.movers.with_line.Given as goal

abbrev pub invariant-loop-p : goal.invariant-loop-p
invariant-loop-p l = Front (λ q. upper q (nums l.line.shares)) (λ q. mover_on q l.line) l.initial.movers l.p l.movers
