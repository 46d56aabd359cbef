use Rattle.std.proofs.Common.{◌-◌, ◌<◌, ◌≤◌, length}
use Rattle.rehearse.proofs.write_pieces.Given as goal

-- no more is passed over than there is, and the buffer has room
abbrev pub invariant-loop-skip : goal.invariant-loop-skip
invariant-loop-skip g l = (l.skip ≤ l.n) × (0 < length l.out)

abbrev pub decreases-loop-skip : goal.decreases-loop-skip
decreases-loop-skip g l = l.n - l.skip
