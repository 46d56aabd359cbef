-- The player's input: a table's text, a line `calls`, then one call to a line, at most 65,536 bytes.
use Rattle.std.specs.Prelude.{Some, None, ℕ, zero, suc, ◌+◌, ◌/◌, cond, List, [], ◌∷◌, ltb, eqb, length, take}
use Rattle.writing.specs.Ascii.{ascii}
use Rattle.line_place.specs.Place.{line_place}
use Rattle.scanning.specs.Lines.{unreadable_from}
use Rattle.table_text.specs.Text.{Said, says, unreadable, text_of}
use Rattle.dispatch.specs.declared.call.Call.{Call}
use Rattle.calls_text.specs.Line.{call_line, line_after}
use Rattle.calls_text.specs.Line.{CallLine}

-- bytes of an input, at most
abbrev pub input_limit : ℕ
input_limit = 65536

-- what an input says: a core count, the table's numbers and the place of the first call, or nothing, and then a line is named
pub data InputSays : Type 0 where
  plays : ℕ → List ℕ → ℕ → InputSays
  unplayable : ℕ → InputSays

-- where the first line `calls` stands, and the text's end if there is none
unfoldable pub calls_place : List ℕ → ℕ
calls_place s = line_place (ascii "calls\n") s

-- the first unreadable one of the calls from a place on, where this line starts, and 0 if there is none
abbrev pub bad_call : List ℕ → ℕ → ℕ → ℕ
bad_call s line at = unreadable_from (λ p. line_after (call_line s p)) (length s) (length s) line at

-- the calls of a table, the first of them at a place, if each can be read; the core count, the tasks and `calls` have a line each before them
unfoldable pub after_calls : List ℕ → ℕ → List ℕ → ℕ → InputSays
after_calls s m xs at = cond (eqb (bad_call s (3 + length xs / 2) at) 0) (plays m xs at) (unplayable (bad_call s (3 + length xs / 2) at))

-- what stands before the line `calls` is the table's text; where there is none, the line after the last is named
unfoldable pub after_table : List ℕ → ℕ → Said → InputSays
after_table s p (says m xs) = cond (ltb p (length s)) (after_calls s m xs (p + 6)) (unplayable (2 + length xs / 2))
after_table s p (unreadable line) = unplayable line

-- the whole input; line 0 is named where it is too long, tested first
unfoldable pub input_of : List ℕ → InputSays
input_of s = cond (ltb input_limit (length s)) (unplayable 0) (after_table s (calls_place s) (text_of (take (calls_place s) s)))

-- this line's call, then the later ones
unfoldable pub then_calls : (ℕ → List Call) → CallLine → List Call
then_calls later (Some (c, next)) = c ∷ later next
then_calls later None = []

-- the calls from a place on; f is no less than the lines' number
unfoldable pub calls_from : ℕ → List ℕ → ℕ → List Call
calls_from zero s at = []
calls_from (suc f) s at = cond (ltb at (length s)) (then_calls (λ next. calls_from f s next) (call_line s at)) []
