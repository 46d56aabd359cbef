-- `assignment::roomiest` meets its contract.
use Rattle.units.specs.Units.{nums}
use Rattle.assignment.proofs.Best.{Best}
use Rattle.assignment.proofs.roomiest.Given as goal

abbrev pub invariant-loop-p : goal.invariant-loop-p
invariant-loop-p l = Best (nums l.room.shares) l.best l.most.0 l.p
