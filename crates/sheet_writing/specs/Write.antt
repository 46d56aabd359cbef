-- Writing a table as a sheet, document 02, R-1: its ticks times the tick length. Refused by 19, 17, 18, planning's, then 14.
use Rattle.std.specs.Prelude.{Option, Some, None, ℕ, ◌*◌, ◌/◌, cond, List, [], ◌∷◌, ◌++◌, leb, eqb, length, drop, Result, Ok, Err}
use Rattle.units.specs.Refusals.{Refusal}
use Rattle.units.specs.declared.refusal.Refusal.{Refusal as Refused}
use Rattle.units.specs.Refusals.{told, refusal, taken, buffer_no, sheet_no, name_no, tick_no}
use Rattle.admission.specs.Refusals.{◌or_else◌}
use Rattle.admission.specs.Admission.{plan_refusal}
use Rattle.name_list.specs.Names.{twice, names_of, names_said}
use Rattle.tick_length.specs.Ticks.{tick_in}
use Rattle.sheet_text.specs.Job.{Job, job}
use Rattle.sheet_text.specs.Grammar.{sheet_written}

-- the jobs of a table and its names: its ticks times the tick length
abbrev pub jobs_with : ℕ → List (List ℕ) → List ℕ → List Job
jobs_with tick [] xs = []
jobs_with tick (n ∷ ns) [] = []
jobs_with tick (n ∷ ns) (c ∷ []) = []
jobs_with tick (n ∷ ns) (c ∷ t ∷ xs) = job n (c * tick) (t * tick) ∷ jobs_with tick ns xs

-- 19: the tick length is out of range
abbrev pub tick_test : ℕ → Refusal
tick_test tick = cond (tick_in tick) taken (refusal tick_no 0)

-- 17: a line is no name, or there is not one for each task
unfoldable pub count_test : ℕ → Option ℕ → Refusal
count_test tasks (Some n) = cond (eqb n tasks) taken (refusal sheet_no 0)
count_test tasks None = refusal sheet_no 0

-- 18: the same name twice
abbrev pub twice_test : List (List ℕ) → Refusal
twice_test ns = cond (twice ns) (refusal name_no 0) taken

-- the first refusal that applies: 19, 17, 18, then planning's
unfoldable pub write_refusal : ℕ → List ℕ → List ℕ → ℕ → Refusal
write_refusal m xs names tick =
    tick_test tick
    or_else count_test (length xs / 2) (names_said names)
    or_else twice_test (names_of names)
    or_else plan_refusal m xs

-- the sheet
unfoldable pub sheet_for : List ℕ → List ℕ → ℕ → List ℕ
sheet_for xs names tick = sheet_written tick (jobs_with tick (names_of names) xs)

-- the refusal, or none and the sheet's length
pub record Written : Type 0 where
  pub refusal : Refusal
  pub length : ℕ

-- a refusal and no sheet
abbrev pub unwritten : Refusal → Written
unwritten r = record { refusal = r; length = 0 }

-- a sheet of so many bytes
abbrev pub written_whole : ℕ → Written
written_whole n = record { refusal = taken; length = n }

-- what the code's answer tells
abbrev pub writing_told : Result ℕ Refused → Written
writing_told (Ok n) = written_whole n
writing_told (Err r) = unwritten (told r)

-- a sheet in a buffer of so many bytes: refusal 14, or its length
unfoldable pub fitted : List ℕ → ℕ → Written
fitted text room = cond (leb (length text) room) (written_whole (length text)) (unwritten (refusal buffer_no 0))

-- the buffer after it: the sheet and then what it was, or all as it was
unfoldable pub fitted_after : List ℕ → List ℕ → List ℕ
fitted_after text buf = cond (leb (length text) (length buf)) (text ++ drop (length text) buf) buf

-- writing: the first refusal that applies, 14 the last, or the sheet's length
unfoldable pub written_of : ℕ → List ℕ → List ℕ → ℕ → ℕ → Written
written_of m xs names tick room =
    cond (eqb (write_refusal m xs names tick).no 0)
    (fitted (sheet_for xs names tick) room)
    (unwritten (write_refusal m xs names tick))

-- the buffer after it: as it was where writing is refused
unfoldable pub written_after : ℕ → List ℕ → List ℕ → ℕ → List ℕ → List ℕ
written_after m xs names tick buf = cond (eqb (write_refusal m xs names tick).no 0) (fitted_after (sheet_for xs names tick) buf) buf
