-- The lines of a text, one after another. `next` is the place after the line at a place, and 0 where that line cannot be read.
use Rattle.std.specs.Prelude.{ℕ, zero, suc, ◌+◌, cond, Option, Some, None, ltb, eqb}
use Rattle.scanning.specs.Line.{Pair}

-- the place after two numbers on a line
unfoldable pub pair_end : Pair → ℕ
pair_end (Some (x, y, at)) = at
pair_end None = 0

-- the first unreadable one of the lines from a place on, where this line starts, 0 if there is none; n is the text's length, f no less than its lines
unfoldable pub unreadable_from : (ℕ → ℕ) → ℕ → ℕ → ℕ → ℕ → ℕ
unreadable_from next zero n line at = 0
unreadable_from next (suc f) n line at =
    cond (ltb at n)
    (cond (eqb (next at) 0) line (unreadable_from next f n (line + 1) (next at)))
    0

-- a line or a place that is told by its number, and 0 for none
unfoldable pub unless_zero : ℕ → Option ℕ
unless_zero n = cond (eqb n 0) None (Some n)
