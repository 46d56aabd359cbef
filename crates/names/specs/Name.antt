-- Document 02, R-1: a name has 1 to 12 small letters.
use Rattle.std.specs.Prelude.{ℕ, ◌+◌, ◌≤◌, ◌<◌, Bool, cond, ◌&&◌, List, [], ◌∷◌, ltb, leb, eqb, length, get_or, drop}

-- letters of a name, at most
abbrev pub letters_limit : ℕ
letters_limit = 12

-- small letters alone, 1 to 12 of them
pub record Name (n : List ℕ) : Type 0 where
  pub some : 1 ≤ length n
  pub few : length n ≤ 12
  pub small : (i : ℕ) → i < length n → (97 ≤ get_or n i 0) × (get_or n i 0 ≤ 122)

-- a byte is a small letter, a to z being 97 to 122
abbrev pub letter : ℕ → Bool
letter b = leb 97 b && leb b 122

-- the small letters that a text starts with
unfoldable pub letters : List ℕ → List ℕ
letters [] = []
letters (b ∷ s) = cond (letter b) (b ∷ letters s) []

-- so many letters are a name
abbrev pub name_long : ℕ → Bool
name_long k = ltb 0 k && leb k letters_limit

-- the name at a place
unfoldable pub name_at : List ℕ → ℕ → List ℕ
name_at s at = letters (drop at s)

-- the place after a name of k letters at a place and the byte e that has to end it, 0 where that does not stand there
unfoldable pub name_by : List ℕ → ℕ → ℕ → ℕ → ℕ
name_by s e at k = cond (name_long k && eqb (get_or s (at + k) 0) e) (at + k + 1) 0

-- the place after the name at a place and the byte e that has to end it, 0 where no name stands there
unfoldable pub name_end : List ℕ → ℕ → ℕ → ℕ
name_end s e at = name_by s e at (length (name_at s at))
