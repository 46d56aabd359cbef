-- The turns of E7 and E8.
use mathlib.Core.Path.{◌≡◌, refl}
use mathlib.Core.List.{[], ◌∷◌, ◌++◌}
use Rattle.lists.specs.Lists.{zeros}
use Rattle.turn.specs.Turn.{best_from, core_of, counted, turn_of, fresh, turns}

-- E7: shares 1, 2, 1 on cores 1, 2, 3, two cycles; a run given to the core furthest behind would make them 2, 1, 3, 2
pub e7 : turns 8 4 ((1 ∷ 2 ∷ 1 ∷ []) ++ zeros 13) fresh ≡ 2 ∷ 1 ∷ 2 ∷ 3 ∷ 2 ∷ 1 ∷ 2 ∷ 3 ∷ []
unfolding turns turn_of counted core_of best_from
e7 = refl

-- E8: shares 1, 2 on cores 3, 4
pub e8 : turns 3 3 ((0 ∷ 0 ∷ 1 ∷ 2 ∷ []) ++ zeros 12) fresh ≡ 4 ∷ 3 ∷ 4 ∷ []
unfolding turns turn_of counted core_of best_from
e8 = refl
