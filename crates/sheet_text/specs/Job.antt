-- A job of the office's sheet, document 02, R-1: a line `name,cost,period`, cost and period in nanoseconds.
use Rattle.std.specs.Prelude.{Some, None, ℕ, zero, suc, cond, List, [], ◌∷◌, ◌++◌, map, ltb, eqb, length}
use Rattle.writing.specs.Ascii.{newline}
use Rattle.names.specs.Name.{name_at, name_end}
use Rattle.scanning.specs.Line.{Pair, pair_by}
use Rattle.scanning.specs.Lines.{pair_end, unreadable_from}
use Rattle.tick_length.specs.Ticks.{cost_ticks, period_ticks}

-- a job: its name, its cost and its period in nanoseconds
pub record Job : Type 0 where
  pub name : List ℕ
  pub cost : ℕ
  pub period : ℕ

-- that of a name and two numbers
abbrev pub job : List ℕ → ℕ → ℕ → Job
job n c t = record { name = n; cost = c; period = t }

-- each job of a list has a property
pub data Each (P : Job → Type 0) : List Job → Type 0 where
  none : Each P []
  also : {j : Job} {js : List Job} → P j → Each P js → Each P (j ∷ js)

-- the byte between two fields of a line
abbrev pub comma : ℕ
comma = 44

-- 10^15, which each number is below: 1 to 15 digits
abbrev pub nanos_bound : ℕ
nanos_bound = 1000000000000000

-- the names of jobs
abbrev pub names_in : List Job → List (List ℕ)
names_in js = map (λ (j : Job). j.name) js

-- the table of jobs, in ticks: cost then period of each
abbrev pub ticks_in : ℕ → List Job → List ℕ
ticks_in tick [] = []
ticks_in tick (j ∷ js) = cost_ticks tick j.cost ∷ period_ticks tick j.period ∷ ticks_in tick js

-- the name at a place as a line, where there is one
unfoldable pub name_line : List ℕ → ℕ → List ℕ
name_line s at = cond (eqb (name_end s comma at) 0) [] (name_at s at ++ newline ∷ [])

-- cost and period after a name that ends at a place, 0 for no name
unfoldable pub after_name : List ℕ → ℕ → Pair
after_name s a = cond (eqb a 0) None (pair_by nanos_bound comma s a)

-- cost and period of the job at a place, with the place after its line
unfoldable pub job_at : List ℕ → ℕ → Pair
job_at s at = after_name s (name_end s comma at)

-- the place after it, and 0 where it cannot be read
abbrev pub job_end : List ℕ → ℕ → ℕ
job_end s at = pair_end (job_at s at)

-- the first unreadable line of jobs that start at a place with the sheet's second line, and 0 if there is none
abbrev pub bad_job : List ℕ → ℕ → ℕ
bad_job s at = unreadable_from (job_end s) (length s) (length s) 2 at

-- a job of this name, then the later lines' jobs
unfoldable pub then_jobs : (ℕ → List Job) → List ℕ → Pair → List Job
then_jobs later n (Some (c, t, next)) = job n c t ∷ later next
then_jobs later n None = []

-- the jobs from a place on; f is no less than the lines' number
unfoldable pub jobs_from : ℕ → List ℕ → ℕ → List Job
jobs_from zero s at = []
jobs_from (suc f) s at = cond (ltb at (length s)) (then_jobs (λ next. jobs_from f s next) (name_at s at) (job_at s at)) []
