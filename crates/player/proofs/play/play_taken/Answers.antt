-- `player::play::play_taken` meets its contract.
use mathlib.Core.Path.{refl}
use Rattle.units.proofs.Refusals.{refuses}
use Rattle.writing.proofs.Wrote.{recast}
use Rattle.player.proofs.Gives.{refused, taken}
use Rattle.player.proofs.play.play_taken.Goals as goal

pub returns-in-Ok-clause-wrote : goal.returns-in-Ok-clause-wrote
returns-in-Ok-clause-wrote c =
    recast (taken _ _ _ _ c.in-Ok.ensures refl) c.play_calls.ensures.wrote

pub returns-in-Err-clause-wrote : goal.returns-in-Err-clause-wrote
returns-in-Err-clause-wrote c =
    let r = c.in-Err.refusal in
    recast (refused _ _ _ _ c.in-Err.ensures (λ z. refuses r.reason z)) c.put_refusal.ensures.wrote
