-- A line of a text: a number, or two with one byte between, ended by a newline.
use Rattle.std.specs.Prelude.{ℕ, ◌+◌, cond, List, Option, Some, None, eqb, get_or}
use Rattle.writing.specs.Ascii.{blank, newline}
use Rattle.scanning.specs.Number.{Number, number_at}

-- two numbers and the place after their line, if there are two
abbrev pub Pair : Type 0
Pair = Option (ℕ × ℕ × ℕ)

-- a number has to be followed by the byte e, and is then read with it
unfoldable pub followed_by : List ℕ → ℕ → Number → Number
followed_by s e (Some (v, at)) = cond (eqb (get_or s at 0) e) (Some (v, at + 1)) None
followed_by s e None = None

-- the number at a place that the byte e follows, with the place after that byte
unfoldable pub field_at : ℕ → List ℕ → ℕ → ℕ → Number
field_at b s e at = followed_by s e (number_at b s at)

-- the second number, after the first
unfoldable pub second_after : ℕ → Number → Pair
second_after x (Some (y, at)) = Some (x, y, at)
second_after x None = None

-- the first number, then the second
unfoldable pub first_after : ℕ → List ℕ → Number → Pair
first_after b s (Some (x, at)) = second_after x (field_at b s newline at)
first_after b s None = None

-- the two numbers at a place with the byte e between, each below b, to the end of their line, with the place after its newline
abbrev pub pair_by : ℕ → ℕ → List ℕ → ℕ → Pair
pair_by b e s at = first_after b s (field_at b s e at)

-- the two numbers at a place with one blank between
unfoldable pub pair_at : ℕ → List ℕ → ℕ → Pair
pair_at b s at = pair_by b blank s at
