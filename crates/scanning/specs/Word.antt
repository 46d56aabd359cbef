-- A word at a place of a text.
use Rattle.std.specs.Prelude.{ℕ, ◌+◌, Bool, true, false, cond, ◌&&◌, List, [], ◌∷◌, Option, Some, None, eqb, length, drop}

-- the place after a word, if it stands there
abbrev pub Word : Type 0
Word = Option ℕ

-- the text starts with the word
abbrev pub starts : List ℕ → List ℕ → Bool
starts [] s = true
starts (c ∷ w) [] = false
starts (c ∷ w) (b ∷ s) = eqb b c && starts w s

-- the word at a place, with the place after it
unfoldable pub word_at : List ℕ → List ℕ → ℕ → Word
word_at w s at = cond (starts w (drop at s)) (Some (at + length w)) None
