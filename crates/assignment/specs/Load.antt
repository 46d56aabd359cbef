-- The two passes in the words of document 01: a core's load is what it has given, its room the rest of its l units.
use Rattle.std.specs.Prelude.{ℕ, suc, ◌+◌, ◌-◌, Bool, true, ◌&&◌, cond, List, [], ◌∷◌, map, leb, get_or, set}
use Rattle.assignment.specs.Passes.{whole, pass_two}

-- the room beside each load
abbrev pub room_of : ℕ → List ℕ → List ℕ
room_of l loads = map (λ (x : ℕ). l - x) loads

-- no number is below x
abbrev pub none_below : ℕ → List ℕ → Bool
none_below x [] = true
none_below x (y ∷ ys) = leb x y && none_below x ys

-- where the least number stands first
abbrev pub at_least : List ℕ → ℕ
at_least [] = 0
at_least (x ∷ xs) = cond (none_below x xs) 0 (suc (at_least xs))

-- the shares in both passes: wholly to the core with the least load, lowest number at a tie, if the task fits; else pass two for good
abbrev pub by_load : ℕ → List ℕ → List ℕ → List (List ℕ)
by_load l [] loads = []
by_load l (w ∷ ws) loads =
    cond (leb (get_or loads (at_least loads) 0 + w) l)
    (whole w (at_least loads) loads ∷ by_load l ws (set loads (at_least loads) (get_or loads (at_least loads) 0 + w)))
    (pass_two 0 (w ∷ ws) (room_of l loads))
