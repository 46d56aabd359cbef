-- The shares of E5 and E6. In E6 tasks 4 and 5 come after the first misfit: pass one carried on would put task 4 on core 1.
use mathlib.Core.Path.{◌≡◌, refl}
use mathlib.Core.List.{[], ◌∷◌, map}
use lib.ListN.{take}
use Rattle.ordering.specs.Order.{order, in_order}
use Rattle.assignment.specs.Passes.{empty_rows, shares_of, rooms}

-- E5: the third task moves
pub e5 : map (take 2) (shares_of (2 ∷ 2 ∷ 2 ∷ []) (rooms 2 3)) ≡ (2 ∷ 0 ∷ []) ∷ (0 ∷ 2 ∷ []) ∷ (1 ∷ 1 ∷ []) ∷ []
unfolding shares_of empty_rows order in_order
e5 = refl

-- E6: the third task moves, the fourth and the fifth are fixed on core 2
pub e6 : map (take 2) (shares_of (7 ∷ 7 ∷ 4 ∷ 1 ∷ 1 ∷ []) (rooms 2 10)) ≡ (7 ∷ 0 ∷ []) ∷ (0 ∷ 7 ∷ []) ∷ (3 ∷ 1 ∷ []) ∷ (0 ∷ 1 ∷ []) ∷ (0 ∷ 1 ∷ []) ∷ []
unfolding shares_of empty_rows order in_order
e6 = refl
