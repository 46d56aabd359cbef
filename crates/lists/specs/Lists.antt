-- Small functions on lists of numbers, counted from 0.
use Rattle.std.specs.Prelude.{ℕ, suc, ◌+◌, max, Bool, true, false, cond, List, [], ◌∷◌, leb, eqb, replicate}

-- n zeros
abbrev pub zeros : ℕ → List ℕ
zeros n = replicate n 0

-- the sum
abbrev pub total : List ℕ → ℕ
total [] = 0
total (x ∷ xs) = x + total xs

-- the largest number, 0 of none
abbrev pub most : List ℕ → ℕ
most [] = 0
most (x ∷ xs) = max x (most xs)

-- where the largest number stands first
abbrev pub at_most : List ℕ → ℕ
at_most [] = 0
at_most (x ∷ xs) = cond (leb (most xs) x) 0 (suc (at_most xs))

-- how many are positive
abbrev pub parts : List ℕ → ℕ
parts [] = 0
parts (x ∷ xs) = cond (eqb x 0) (parts xs) (suc (parts xs))

-- where the first positive number stands; the length if there is none
abbrev pub first_part : List ℕ → ℕ
first_part [] = 0
first_part (x ∷ xs) = cond (eqb x 0) (suc (first_part xs)) 0

-- where the first entry stands that passes a test; the length if none does
abbrev pub seek : {A : Type 0} → (A → Bool) → List A → ℕ
seek f [] = 0
seek f (x ∷ xs) = cond (f x) 0 (suc (seek f xs))

-- 1 if so, else 0
abbrev pub bit : Bool → ℕ
bit true = 1
bit false = 0

-- the number if so, else 0
abbrev pub val : Bool → ℕ → ℕ
val true n = n
val false n = 0
