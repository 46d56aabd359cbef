-- The input of a rehearsal: a table's text, a line `rehearse STOP`, then a line for each arrival, at most 4,096.
use Rattle.std.specs.Prelude.{Result, Ok, Err, Some, None, ℕ, zero, suc, ◌+◌, ◌/◌, Bool, List, [], ◌∷◌, ltb, length, take}
use Rattle.table_text.specs.Text.{Said, says, unreadable as no_table, text_of}
use Rattle.scanning.specs.Number.{Number}
use Rattle.day_text.specs.Line.{ArrivalLine, stop_line, stop_place, arrival_line}
use Rattle.day_text.specs.declared.DayRead.{DayRead}

-- arrivals of a day, at most
abbrev pub lines_limit : ℕ
lines_limit = 4096

-- bytes that decide what an input says: a table's text of 4,096, the stop's line of 25 at most, 4,096 lines of 48 at most, and one more
abbrev pub input_limit : ℕ
input_limit = 200730

-- what is read of an input: how many numbers its table and its arrivals have, with the core count, the stop and whether more is left; or the line that is named
abbrev pub DayReading : Type 0
DayReading = Result DayRead ℕ

-- what is read, part by part
abbrev pub day_read : ℕ → ℕ → ℕ → ℕ → Bool → DayRead
day_read m n stop k more = record { cores = m; count = n; stop = stop; numbers = k; more = more }

-- what an input says: a core count, the table's numbers, the stop, the arrivals' numbers and whether more is left; or nothing, and then a line is named
pub data DaySays : Type 0 where
  rehearses : ℕ → List ℕ → ℕ → List ℕ → Bool → DaySays
  unreadable : ℕ → DaySays

-- this line's time, task and length, then the later lines' numbers
unfoldable pub then_later : (ℕ → List ℕ) → ArrivalLine → List ℕ
then_later later (Some (t, i, l, next)) = t ∷ i ∷ l ∷ later next
then_later later None = []

-- the numbers of the arrivals from a place on, of f lines at most, until one cannot be read
unfoldable pub arrivals_from : ℕ → List ℕ → ℕ → List ℕ
arrivals_from zero s at = []
arrivals_from (suc f) s at = then_later (λ next. arrivals_from f s next) (arrival_line s at)

-- the place after this line and the later ones
unfoldable pub then_place : (ℕ → ℕ) → ℕ → ArrivalLine → ℕ
then_place later at (Some (t, i, l, next)) = later next
then_place later at None = at

-- the place after those arrivals
unfoldable pub place_after : ℕ → List ℕ → ℕ → ℕ
place_after zero s at = at
place_after (suc f) s at = then_place (λ next. place_after f s next) at (arrival_line s at)

-- the arrivals from a place on
abbrev pub arrivals_at : List ℕ → ℕ → List ℕ
arrivals_at s at = arrivals_from lines_limit s at

-- something is left after them: an unreadable line, or one beyond 4,096
abbrev pub more_at : List ℕ → ℕ → Bool
more_at s at = ltb (place_after lines_limit s at) (length s)

-- the stop, then the arrivals; where there is no stop's line, the line after the table's last is named
unfoldable pub after_stop : List ℕ → ℕ → List ℕ → Number → DaySays
after_stop s m xs (Some (stop, at)) = rehearses m xs stop (arrivals_at s at) (more_at s at)
after_stop s m xs None = unreadable (2 + length xs / 2)

-- what stands before the stop's line is the table's text
unfoldable pub after_table : List ℕ → ℕ → Said → DaySays
after_table s p (says m xs) = after_stop s m xs (stop_line s p)
after_table s p (no_table line) = unreadable line

-- what the table's text says
abbrev pub table_in : List ℕ → Said
table_in s = text_of (take (stop_place s) s)

-- the whole input
unfoldable pub day_of : List ℕ → DaySays
day_of s = after_table s (stop_place s) (table_in s)

-- the arrivals' numbers, and none if the input is unreadable
unfoldable pub arrivals_said : DaySays → List ℕ
arrivals_said (rehearses m xs stop ys more) = ys
arrivals_said (unreadable line) = []

-- the answer: the core count, how many numbers the table has, the stop, how many the arrivals have and whether more is left; or the line that is named
unfoldable pub day_answer : DaySays → DayReading
day_answer (rehearses m xs stop ys more) = Ok (day_read m (length xs) stop (length ys) more)
day_answer (unreadable line) = Err line
