-- The office's sheet as document 02 writes it, R-1: the tick length, then one job a line, `name,cost,period`.
use Rattle.std.specs.Prelude.{ℕ, ◌≤◌, ◌<◌, ◌≡◌, ◌⊎◌, List, [], ◌∷◌, ◌++◌, length, get_or}
use Rattle.writing.specs.Ascii.{newline}
use Rattle.writing.specs.Decimal.{decimal_of}
use Rattle.names.specs.Name.{Name}
use Rattle.sheet_text.specs.Job.{Job, Each, comma, names_in}
use Rattle.sheet_text.specs.Sheet.{Said, says, refused_by}

-- a tick length, 1 to 1,000,000 nanoseconds
abbrev pub TickIn : ℕ → Type 0
TickIn tick = (1 ≤ tick) × (tick ≤ 1000000)

-- a number of 1 to 15 digits
abbrev pub Nanos : ℕ → Type 0
Nanos n = n < 1000000000000000

-- a job that a line can say: its name has 1 to 12 small letters, its numbers 1 to 15 digits
pub record Good (j : Job) : Type 0 where
  pub name : Name j.name
  pub cost : Nanos j.cost
  pub period : Nanos j.period

-- each of them
abbrev pub AllGood : List Job → Type 0
AllGood js = Each Good js

-- the first line: the number in decimal, ended by a newline
abbrev pub tick_written : ℕ → List ℕ
tick_written tick = decimal_of tick ++ newline ∷ []

-- a job's line, `name,cost,period`, no blanks, ended by a newline
abbrev pub job_written : Job → List ℕ
job_written j = j.name ++ comma ∷ decimal_of j.cost ++ comma ∷ decimal_of j.period ++ newline ∷ []

-- a line for each job
abbrev pub jobs_written : List Job → List ℕ
jobs_written [] = []
jobs_written (j ∷ js) = job_written j ++ jobs_written js

-- the whole sheet
abbrev pub sheet_written : ℕ → List Job → List ℕ
sheet_written tick js = tick_written tick ++ jobs_written js

-- no name stands twice, whatever stands between
abbrev pub Distinct : List (List ℕ) → Type 0
Distinct ns = (i j : ℕ) → i < j → j < length ns → get_or ns i [] ≡ get_or ns j [] → ⊥

-- some name does
abbrev pub Twice : List (List ℕ) → Type 0
Twice ns = (i : ℕ) × (j : ℕ) × (i < j) × (j < length ns) × (get_or ns i [] ≡ get_or ns j [])

-- a sheet starts with the line of a tick length in range
pub record Starts (s : List ℕ) (tick : ℕ) (rest : List ℕ) : Type 0 where
  pub tick_in : TickIn tick
  pub lines : s ≡ tick_written tick ++ rest

-- it is that line and those of jobs, at most 4,096 bytes
pub record Jobs (s : List ℕ) (tick : ℕ) (js : List Job) : Type 0 where
  pub starts : Starts s tick (jobs_written js)
  pub good : AllGood js
  pub short : length s ≤ 4096

-- it is too long, or what follows its first line is not a line for each of some jobs
abbrev pub NoJobs : List ℕ → List ℕ → Type 0
NoJobs s rest = (4096 < length s) ⊎ ((js : List Job) → AllGood js → rest ≡ jobs_written js → ⊥)

-- a sheet says a tick length and jobs exactly if it is their lines and no name stands twice; else 19, then 17, then 18 refuses it
pub data Says (s : List ℕ) : Said → Type 0 where
  sheet : {tick : ℕ} {js : List Job} → Jobs s tick js → Distinct (names_in js) → Says s (says tick js)
  refused_19 : ((tick : ℕ) (rest : List ℕ) → Starts s tick rest → ⊥) → Says s (refused_by 19)
  refused_17 : {tick : ℕ} {rest : List ℕ} → Starts s tick rest → NoJobs s rest → Says s (refused_by 17)
  refused_18 : {tick : ℕ} {js : List Job} → Jobs s tick js → Twice (names_in js) → Says s (refused_by 18)
