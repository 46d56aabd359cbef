-- `rehearsal::steps::rehearse` meets its contract.
use Prim.Native.Nat.{◌+◌, ◌-◌, ◌*◌, ◌/◌}
use lib.ListN.{length}
use Rattle.rehearsal.proofs.Rehearsing.{Rehearsing}
use Rattle.rehearsal.proofs.steps.rehearse.Given as goal

abbrev pub invariant-loop-desk : goal.invariant-loop-desk
invariant-loop-desk l =
    Rehearsing l.plan l.arrivals l.stop.0 l.skip l.initial.out l.out l.fronts l.had l.goings l.desk

abbrev pub decreases-loop-desk : goal.decreases-loop-desk
decreases-loop-desk l =
    20 * (l.stop.0 - l.desk.time) + (l.desk.cores - l.desk.core) + (length l.arrivals / 3 - l.desk.next)
