-- What the program `office` writes, document 02, R-1: a table's text, a line `names TICK`, then a name a line.
use Rattle.std.specs.Prelude.{Some, None, ℕ, ◌+◌, ◌/◌, cond, List, ltb, eqb, length, take, drop}
use Rattle.units.specs.Refusals.{refusal, text_no, tick_no}
use Rattle.writing.specs.Ascii.{ascii, newline}
use Rattle.writing.specs.Refused.{refusal_text}
use Rattle.scanning.specs.Line.{field_at}
use Rattle.line_place.specs.Place.{line_place}
use Rattle.scanning.specs.Number.{Number}
use Rattle.table_text.specs.Text.{Said, says, unreadable, text_of}
use Rattle.sheet_text.specs.Job.{nanos_bound}
use Rattle.sheet_writing.specs.Write.{sheet_for, written_of}

-- where the first line that starts with the word `names ` stands, and the text's end if there is none
abbrev pub names_place : List ℕ → ℕ
names_place s = line_place (ascii "names ") s

-- a table and its names in a buffer of so many bytes: the sheet, or the refusal's line
unfoldable pub written_text : ℕ → ℕ → List ℕ → List ℕ → ℕ → List ℕ
written_text room m xs names tick =
    cond (eqb (written_of m xs names tick room).refusal.no 0)
    (sheet_for xs names tick)
    (refusal_text (written_of m xs names tick room).refusal)

-- the tick length follows the word, and the names its line; where it cannot be read it is 19
unfoldable pub after_tick : ℕ → ℕ → List ℕ → List ℕ → Number → List ℕ
after_tick room m xs s (Some (tick, at)) = written_text room m xs (drop at s) tick
after_tick room m xs s None = refusal_text (refusal tick_no 0)

-- what follows the word at a place
abbrev pub after_word : ℕ → ℕ → List ℕ → List ℕ → ℕ → List ℕ
after_word room m xs s at = after_tick room m xs s (field_at nanos_bound s newline at)

-- what stands before the line is the table's text, and 16 as by `plan`; where there is no such line, the line after the last is named
unfoldable pub after_table : ℕ → List ℕ → ℕ → Said → List ℕ
after_table room s p (says m xs) = cond (ltb p (length s)) (after_word room m xs s (p + 6)) (refusal_text (refusal text_no (2 + length xs / 2)))
after_table room s p (unreadable line) = refusal_text (refusal text_no line)

-- the whole input: 16, then 19, 17, 18, planning's and 14
unfoldable pub office_text : ℕ → List ℕ → List ℕ
office_text room s = after_table room s (names_place s) (text_of (take (names_place s) s))
