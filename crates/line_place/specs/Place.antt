-- The first line of a text that starts with a word.
use Rattle.std.specs.Prelude.{ℕ, zero, suc, ◌+◌, ◌-◌, Bool, cond, ◌&&◌, ◌||◌, List, eqb, length, get_or, drop}
use Rattle.writing.specs.Ascii.{newline}
use Rattle.scanning.specs.Word.{starts}

-- a line starts at a place: at the first, or after a newline
abbrev pub line_starts : List ℕ → ℕ → Bool
line_starts s at = eqb at 0 || eqb (get_or s (at - 1) 0) newline

-- a line that starts with the word w stands at a place
unfoldable pub line_here : List ℕ → List ℕ → ℕ → Bool
line_here w s at = line_starts s at && starts w (drop at s)

-- the first of n places, from one on, that passes a test; the place after them if none does
unfoldable pub first_place : (ℕ → Bool) → ℕ → ℕ → ℕ
first_place f zero at = at
first_place f (suc n) at = cond (f at) at (first_place f n (at + 1))

-- where the first line that starts with the word w stands, and the text's end if there is none
unfoldable pub line_place : List ℕ → List ℕ → ℕ
line_place w s = first_place (line_here w s) (length s) 0
