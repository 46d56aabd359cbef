-- The room for the answers is what they take at most.
use mathlib.Core.Path.{◌≡◌, refl}
use Rattle.player.specs.Played.{answers_limit}
use Rattle.player.specs.declared.play.TheConstants.{ANSWERS}

-- the program's room has as many bytes as the answers may have, and no more
pub room_exact : ANSWERS ≡ answers_limit
room_exact = refl
