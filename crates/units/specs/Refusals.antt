-- Document 01, "Refusal numbers", and document 02: a refusal, and the number of each case.
use Rattle.std.specs.Prelude.{ℕ, cond, eqb, Result, Ok, Err}
use Rattle.units.specs.declared.refusal.Numbers.{Numbers}
use Rattle.units.specs.declared.refusal.Reason.{Reason}
use Rattle.units.specs.declared.refusal.Reason.TheVariants as Reasons
use Rattle.units.specs.declared.refusal.Refusal.{Refusal as Refused}

-- a refusal's number, and the task, the line or the arrival that it names
pub record Refusal : Type 0 where
  pub no : ℕ
  pub named : ℕ

abbrev pub refusal : ℕ → ℕ → Refusal
refusal n i = record { no = n; named = i }

-- no refusal
abbrev pub taken : Refusal
taken = refusal 0 0

-- core count 0 or above 16
abbrev pub cores_no : ℕ
cores_no = 1

-- table empty, over 64 tasks, or ending inside a task
abbrev pub table_no : ℕ
table_no = 2

-- a task has cost 0, period 0 or period above its limit
abbrev pub range_no : ℕ
range_no = 3

-- a task's cost exceeds its period
abbrev pub cost_no : ℕ
cost_no = 4

-- the common period exceeds its limit
abbrev pub period_no : ℕ
period_no = 5

-- the weights sum to more than M × L
abbrev pub weights_no : ℕ
weights_no = 6

-- task number 0 or above N
abbrev pub task_no : ℕ
task_no = 7

-- the call's time is below the stored clock
abbrev pub past_no : ℕ
past_no = 8

-- a release while 8 runs of the task are unfinished
abbrev pub backlog_no : ℕ
backlog_no = 10

-- finish of a task with no unfinished run, or whose oldest one is held
abbrev pub no_run_no : ℕ
no_run_no = 11

-- the call's time, or a release's held time, is above the clock's limit
abbrev pub clock_no : ℕ
clock_no = 12

-- core number 0 or above M
abbrev pub core_no : ℕ
core_no = 13

-- the listing is longer than the lent buffer
abbrev pub buffer_no : ℕ
buffer_no = 14

-- a record handed in is unsound
abbrev pub unsound_no : ℕ
unsound_no = 15

-- the program's text can't be read
abbrev pub text_no : ℕ
text_no = 16

-- a line of an office sheet after its first can't be read, or the sheet is too long
abbrev pub sheet_no : ℕ
sheet_no = 17

-- an office sheet has the same name twice
abbrev pub name_no : ℕ
name_no = 18

-- an office sheet's first line can't be read, or its tick length is out of range
abbrev pub tick_no : ℕ
tick_no = 19

-- an arrival can't be read, is beyond 4,096 or is for a task not in the table
abbrev pub arrival_no : ℕ
arrival_no = 25

-- an arrival's length is outside 1 to its task's cost
abbrev pub length_no : ℕ
length_no = 26

-- an arrival's time is below the one before
abbrev pub order_no : ℕ
order_no = 27

-- what an accepted call answers; what was lent for it where the call is refused
abbrev pub or_kept : {A : Type 0} → ℕ → A → A → A
or_kept n answered lent = cond (eqb n 0) answered lent

-- all of them
abbrev pub the_numbers : Numbers
the_numbers = record {
  cores = cores_no;
  table = table_no;
  range = range_no;
  cost = cost_no;
  period = period_no;
  weights = weights_no;
  task = task_no;
  past = past_no;
  backlog = backlog_no;
  norun = no_run_no;
  clock = clock_no;
  core = core_no;
  buffer = buffer_no;
  unsound = unsound_no;
  text = text_no;
  sheet = sheet_no;
  name = name_no;
  tick = tick_no;
  arrival = arrival_no;
  length = length_no;
  order = order_no;
}

-- the number of each reason
abbrev pub number : Reason → ℕ
number Reasons.Cores = cores_no
number Reasons.Table = table_no
number Reasons.Range = range_no
number Reasons.Cost = cost_no
number Reasons.Period = period_no
number Reasons.Weights = weights_no
number Reasons.Task = task_no
number Reasons.Past = past_no
number Reasons.Backlog = backlog_no
number Reasons.NoRun = no_run_no
number Reasons.Clock = clock_no
number Reasons.Core = core_no
number Reasons.Buffer = buffer_no
number Reasons.Unsound = unsound_no
number Reasons.Text = text_no
number Reasons.Sheet = sheet_no
number Reasons.Name = name_no
number Reasons.Tick = tick_no
number Reasons.Arrival = arrival_no
number Reasons.Length = length_no
number Reasons.Order = order_no

-- what the code's refusal tells: the number of its reason, and what it names
abbrev pub told : Refused → Refusal
told r = refusal (number r.reason) r.named

-- the refusal that an answer tells, and none where there is an answer
abbrev pub said : {T : Type 0} → Result T Refused → Refusal
said (Ok x) = taken
said (Err r) = told r

-- the number that it tells, and 0 for none
abbrev pub number_said : {T : Type 0} → Result T Reason → ℕ
number_said (Ok x) = 0
number_said (Err r) = number r
