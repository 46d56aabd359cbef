-- Numbers in bytes, least byte first.
use Rattle.std.specs.Prelude.{ℕ, ◌+◌, ◌*◌, List, [], ◌∷◌, get_or}

-- the number of four bytes
abbrev pub number : ℕ → ℕ → ℕ → ℕ → ℕ
number a b c d = a + 256 * b + 65536 * c + 16777216 * d

-- the numbers of bytes, four for each
abbrev pub numbers_of : List ℕ → List ℕ
numbers_of [] = []
numbers_of (a ∷ []) = []
numbers_of (a ∷ b ∷ []) = []
numbers_of (a ∷ b ∷ c ∷ []) = []
numbers_of (a ∷ b ∷ c ∷ d ∷ bytes) = number a b c d ∷ numbers_of bytes

-- the number of 32 bits at a place; a byte past the end counts as 0
abbrev pub number32_at : List ℕ → ℕ → ℕ
number32_at bytes at = number (get_or bytes at 0) (get_or bytes (at + 1) 0) (get_or bytes (at + 2) 0) (get_or bytes (at + 3) 0)

-- no reader is asked for a place from here on
abbrev pub farthest : ℕ
farthest = 4294967296
