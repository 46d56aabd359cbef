-- For the contract of a private function alone. It stands for no rule of request R-6.
use Rattle.std.specs.Prelude.{Ok, Err, Some, None, ℕ, ◌+◌, ◌/◌, List, [], length}
use Rattle.scanning.specs.Number.{Number}
use Rattle.day_text.specs.Input.{DayReading, day_read, arrivals_at, more_at}

-- the answer for a table of m cores and n numbers, by the stop's line
unfoldable pub stop_answer : List ℕ → ℕ → ℕ → Number → DayReading
stop_answer s m n (Some (stop, at)) = Ok (day_read m n stop (length (arrivals_at s at)) (more_at s at))
stop_answer s m n None = Err (2 + n / 2)

-- the arrivals after it
unfoldable pub stop_arrivals : List ℕ → Number → List ℕ
stop_arrivals s (Some (stop, at)) = arrivals_at s at
stop_arrivals s None = []
