-- Names as a lent text: a name a line, each ended by a newline.
use Rattle.std.specs.Prelude.{Option, Some, None, ℕ, zero, suc, Bool, true, false, cond, ◌&&◌, ◌||◌, List, [], ◌∷◌, ◌++◌, ltb, eqb, length}
use Rattle.writing.specs.Ascii.{newline}
use Rattle.scanning.specs.Lines.{unreadable_from}
use Rattle.names.specs.Name.{name_at, name_end}

-- names as text
abbrev pub names_text : List (List ℕ) → List ℕ
names_text [] = []
names_text (n ∷ ns) = n ++ newline ∷ names_text ns

-- two names are the same
abbrev pub same : List ℕ → List ℕ → Bool
same [] [] = true
same [] (b ∷ m) = false
same (a ∷ n) [] = false
same (a ∷ n) (b ∷ m) = eqb a b && same n m

-- a name is among others
abbrev pub among : List ℕ → List (List ℕ) → Bool
among n [] = false
among n (m ∷ ms) = same n m || among n ms

-- the same name twice, whatever stands between
abbrev pub twice : List (List ℕ) → Bool
twice [] = false
twice (n ∷ ns) = among n ns || twice ns

-- the names of the lines from a place on; f is no less than their number
unfoldable pub names_from : ℕ → List ℕ → ℕ → List (List ℕ)
names_from zero s at = []
names_from (suc f) s at =
    cond (ltb at (length s))
    (cond (eqb (name_end s newline at) 0) [] (name_at s at ∷ names_from f s (name_end s newline at)))
    []

-- all of them
abbrev pub names_of : List ℕ → List (List ℕ)
names_of s = names_from (length s) s 0

-- the first line that is no name, from 1, and 0 if there is none
abbrev pub bad_name : List ℕ → ℕ
bad_name s = unreadable_from (name_end s newline) (length s) (length s) 1 0

-- how many names there are, if each line is one
unfoldable pub names_said : List ℕ → Option ℕ
names_said s = cond (eqb (bad_name s) 0) (Some (length (names_of s))) None
