-- Any two answers that a public function's contract allows are equal.
use mathlib.Core.Path.{sym, ◌∙◌}
use Rattle.lists.specs.Settled.{Settled}
use Rattle.soundness.proofs.plan.plan_sound.Reads as PlanSound

pub plan_sound_lem : Settled PlanSound.Post
plan_sound_lem κs a x y e f p q = p ∙ sym q
