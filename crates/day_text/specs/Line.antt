-- The lines of a rehearsal's input after its table: `rehearse STOP`, and `TIME TASK LENGTH` for each arrival.
use Rattle.std.specs.Prelude.{ℕ, Bool, ◌&&◌, List, Option, Some, None, is_some, length}
use Rattle.writing.specs.Ascii.{ascii, blank, newline}
use Rattle.line_place.specs.Place.{line_starts, first_place}
use Rattle.scanning.specs.Number.{Number}
use Rattle.scanning.specs.Line.{Pair, field_at, pair_at}
use Rattle.scanning.specs.Word.{Word, word_at}

-- an arrival's time, task and length, and the place after its line, if it can be read
abbrev pub ArrivalLine : Type 0
ArrivalLine = Option (ℕ × ℕ × ℕ × ℕ)

-- 10^15, which each number is below: 1 to 15 digits
abbrev pub day_bound : ℕ
day_bound = 1000000000000000

-- the stop after its word, to the end of its line
unfoldable pub stop_after : List ℕ → Word → Number
stop_after s (Some next) = field_at day_bound s newline next
stop_after s None = None

-- the line `rehearse STOP` at a place: its number, and the place after it
unfoldable pub stop_line : List ℕ → ℕ → Number
stop_line s at = stop_after s (word_at (ascii "rehearse ") s at)

-- a line `rehearse STOP` starts at a place
unfoldable pub stop_here : List ℕ → ℕ → Bool
stop_here s at = line_starts s at && is_some (stop_line s at)

-- where the first of them stands, and the text's end if there is none
unfoldable pub stop_place : List ℕ → ℕ
stop_place s = first_place (stop_here s) (length s) 0

-- an arrival's task and length, after its time
unfoldable pub after_time : ℕ → Pair → ArrivalLine
after_time t (Some (i, l, next)) = Some (t, i, l, next)
after_time t None = None

-- its time, then those
unfoldable pub from_time : List ℕ → Number → ArrivalLine
from_time s (Some (t, at)) = after_time t (pair_at day_bound s at)
from_time s None = None

-- the line `TIME TASK LENGTH` at a place, one blank between the numbers; at the text's end there is none
unfoldable pub arrival_line : List ℕ → ℕ → ArrivalLine
arrival_line s at = from_time s (field_at day_bound s blank at)
