-- Any two answers that a public function's contract allows are equal.
use mathlib.Core.Path.{sym, ◌∙◌}
use Rattle.lists.specs.Settled.{Settled}
use Rattle.core_choice.proofs.better_task.Reads as BetterTask
use Rattle.core_choice.proofs.Best.told.Reads as BestTold
use Rattle.core_choice.proofs.Told.choice.Reads as ToldChoice

pub better_task_lem : Settled BetterTask.Post
better_task_lem κs a x y e f p q = p ∙ sym q

pub told : Settled BestTold.Post
told κs a x y e f p q = p ∙ sym q

pub choice : Settled ToldChoice.Post
choice κs a x y e f p q = p ∙ sym q
