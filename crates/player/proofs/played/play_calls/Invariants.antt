-- `player::played::play_calls` meets its contract.
use Prim.Native.Nat.{◌-◌}
use lib.ListN.{length}
use Rattle.player.proofs.Plays.{Playing}
use Rattle.player.proofs.played.play_calls.Given as goal

abbrev pub invariant-loop-call : goal.invariant-loop-call
invariant-loop-call l = Playing l.text l.from l.initial.held l.initial.buf l.held l.buf l.at l.end

abbrev pub decreases-loop-call : goal.decreases-loop-call
decreases-loop-call l = length l.text - l.at
