-- A task's accepted releases over any calls, document 02, R-2. Tasks are counted from 1.
use Rattle.std.specs.Prelude.{ℕ, ◌+◌, ◌-◌, ◌≤◌, ◌<◌, cond, List, [], ◌∷◌, ◌++◌, map}
use Rattle.planning.specs.Tasks.{task_line}
use Rattle.dispatch.specs.declared.Record.{Record}
use Rattle.dispatch.specs.declared.call.Call.{Call}
use Rattle.dispatch.specs.Calls.{Answer}
use Rattle.dispatch.specs.Calls.Answer.{Refused, Released, Finished, Looked}
use Rattle.dispatch.specs.Calls.{answered_of, time_of, step, releases}

-- an accepted release: its call's time, and its release time
pub record Came : Type 0 where
  pub called : ℕ
  pub released : ℕ

-- what an answer at time t tells of it: the release time is the deadline less T
abbrev pub came_in : ℕ → ℕ → Answer → List Came
came_in T t (Refused x) = []
came_in T t (Released p d) = record { called = t; released = d.0 - T } ∷ []
came_in T t (Finished late) = []
came_in T t (Looked choice) = []

-- the accepted release of task i that a call is, if it is one
abbrev pub came_by : ℕ → Record → Call → List Came
came_by i r c = cond (releases i c) (came_in (task_line r.plan i).period.0 (time_of c) (answered_of r c).answer) []

-- the accepted releases of task i, in order
abbrev pub came_of : ℕ → Record → List Call → List Came
came_of i r [] = []
came_of i r (c ∷ cs) = came_by i r c ++ came_of i (step r c) cs

-- their release times
abbrev pub times_of : List Came → List ℕ
times_of xs = map (λ (a : Came). a.released) xs

-- after release time x each release time is its call's time, or the last one plus T where that is later
pub data After (T : ℕ) : ℕ → List Came → Type 0 where
  none : {x : ℕ} → After T x []
  at_once : {x t : ℕ} {rest : List Came} → x + T ≤ t → After T t rest → After T x (record { called = t; released = t } ∷ rest)
  held : {x t : ℕ} {rest : List Came} → t < x + T → After T (x + T) rest → After T x (record { called = t; released = x + T } ∷ rest)

-- the first is its call's time
pub data FromFirst (T : ℕ) : List Came → Type 0 where
  none : FromFirst T []
  first : {t : ℕ} {rest : List Came} → After T t rest → FromFirst T (record { called = t; released = t } ∷ rest)
