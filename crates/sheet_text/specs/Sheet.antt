-- What a sheet says, document 02, R-1: a tick length and jobs; or it is refused by 19, then 17, then 18.
use Rattle.std.specs.Prelude.{Result, Ok, Err, Some, None, ℕ, cond, List, [], ltb, eqb, length}
use Rattle.units.specs.declared.refusal.Reason.{Reason}
use Rattle.units.specs.Refusals.{number, sheet_no, name_no, tick_no}
use Rattle.writing.specs.Ascii.{newline}
use Rattle.scanning.specs.Line.{field_at}
use Rattle.scanning.specs.Number.{Number}
use Rattle.name_list.specs.Names.{twice}
use Rattle.tick_length.specs.Ticks.{tick_in}
use Rattle.sheet_text.specs.declared.sheet.SheetRead.{SheetRead}
use Rattle.sheet_text.specs.Job.{Job, nanos_bound, names_in, ticks_in, bad_job, jobs_from}

-- what is read of a sheet: its tick length, where the jobs start and how many numbers their table has; or the refusal's number
abbrev pub Reading : Type 0
Reading = Result SheetRead ℕ

-- a sheet that is read
abbrev pub sheet_read : ℕ → ℕ → ℕ → SheetRead
sheet_read tick from n = record { tick = tick; from = from; count = n }

-- what a sheet says: a tick length and jobs, or nothing, and then it is refused by a number
pub data Said : Type 0 where
  says : ℕ → List Job → Said
  refused_by : ℕ → Said

-- bytes of a sheet, at most
abbrev pub sheet_limit : ℕ
sheet_limit = 4096

-- the first line: the tick length
abbrev pub tick_line : List ℕ → Number
tick_line s = field_at nanos_bound s newline 0

-- 18: the same name twice
unfoldable pub named : ℕ → List Job → Said
named tick js = cond (twice (names_in js)) (refused_by name_no) (says tick js)

-- 17: the sheet is too long, or a line of the jobs, which start at a place, cannot be read
unfoldable pub jobs_said : List ℕ → ℕ → ℕ → Said
jobs_said s tick at =
    cond (ltb sheet_limit (length s))
    (refused_by sheet_no)
    (cond (eqb (bad_job s at) 0) (named tick (jobs_from (length s) s at)) (refused_by sheet_no))

-- 19: the first line is no number, or one out of range
unfoldable pub after_tick : List ℕ → Number → Said
after_tick s (Some (tick, at)) = cond (tick_in tick) (jobs_said s tick at) (refused_by tick_no)
after_tick s None = refused_by tick_no

-- the whole sheet: 19, then 17, then 18
unfoldable pub sheet_of : List ℕ → Said
sheet_of s = after_tick s (tick_line s)

-- the jobs, none if the sheet is refused
abbrev pub jobs_of : Said → List Job
jobs_of (says tick js) = js
jobs_of (refused_by n) = []

-- the table in ticks, none if the sheet is refused
unfoldable pub table_of : Said → List ℕ
table_of (says tick js) = ticks_in tick js
table_of (refused_by n) = []

-- the place after a line that was read
unfoldable pub end_of : Number → ℕ
end_of (Some (v, at)) = at
end_of None = 0

-- the answer: the tick length, where the jobs start and how many numbers their table has; or the refusal's number
unfoldable pub answer_of : ℕ → Said → Reading
answer_of from (says tick js) = Ok (sheet_read tick from (length (ticks_in tick js)))
answer_of from (refused_by n) = Err n

-- what the code's answer tells
abbrev pub reading_told : Result SheetRead Reason → Reading
reading_told (Ok r) = Ok r
reading_told (Err e) = Err (number e)
