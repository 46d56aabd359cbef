-- The equations of a mover's line, as the code meets them.
use Prim.Native.Nat.{ℕ}
use mathlib.Core.Path.{◌≡◌, refl}
use Rattle.core_choice.specs.declared.Side.{Side}
use Rattle.core_choice.specs.declared.Side.TheVariants.{Upper, Lower}
use Rattle.player.specs.Answers.{chosen_text, mover_text}

module _ (i d : ℕ) {side : Side} where
  -- an upper mover
  pub upper : side ≡ Upper → chosen_text "upper " i d ≡ mover_text side i d
  unfolding mover_text
  upper e = rw e refl

  -- a lower one
  pub lower : side ≡ Lower → chosen_text "lower " i d ≡ mover_text side i d
  unfolding mover_text
  lower e = rw e refl
