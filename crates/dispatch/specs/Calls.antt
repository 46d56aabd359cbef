-- Any calls on a record, one after another, refused ones included. Tasks and cores are counted from 1, runs from 0.
use Rattle.std.specs.Prelude.{ℕ, ◌+◌, Bool, false, cond, List, [], ◌∷◌, ◌++◌, eqb, take, drop, ℤ, Result, Ok, Err}
use Rattle.lists.specs.Lists.{bit}
use Rattle.units.specs.Refusals.{Refusal, refusal, number}
use Rattle.units.specs.declared.refusal.Reason.{Reason}
use Rattle.units.specs.declared.ticks.Ticks.{Ticks}
use Rattle.core_choice.specs.declared.Choice.{Choice}
use Rattle.dispatch.specs.declared.call.Answer.TheVariants as Taken
use Rattle.dispatch.specs.declared.call.Answer.{Answer as TakenAnswer}
use Rattle.dispatch.specs.declared.Record.{Record}
use Rattle.dispatch.specs.declared.call.Call.{Call}
use Rattle.dispatch.specs.declared.call.Call.TheVariants.{Release, Finish, Look}
use Rattle.dispatch.specs.Release.{release_of}
use Rattle.dispatch.specs.Finish.{finish_of}
use Rattle.dispatch.specs.Look.{look_of}

-- the refusal; a run's core and deadline; the time less the deadline; a core's choice
pub data Answer : Type 0 where
  Refused : Refusal → Answer
  Released : ℕ → Ticks → Answer
  Finished : ℤ → Answer
  Looked : Choice → Answer

-- a call's answer, and the record after it
pub record Answered : Type 0 where
  pub answer : Answer
  pub next : Record

-- the answer of a call that is taken, or its refusal, which names no task
abbrev pub or_refused : ℕ → Answer → Answer
or_refused n taken = cond (eqb n 0) taken (Refused (refusal n 0))

-- a call's answer and the record that it hands on
abbrev pub answered_of : Record → Call → Answered
answered_of r (Release i t) =
    let a = release_of r i t.0 in
    record { answer = or_refused a.refusal (Released a.core a.deadline); next = a.next }
answered_of r (Finish i t) =
    let a = finish_of r i t.0 in
    record { answer = or_refused a.refusal (Finished a.late); next = a.next }
answered_of r (Look k t) =
    let a = look_of r k t.0 in
    record { answer = or_refused a.refusal (Looked a.choice); next = a.next }

-- what the code's answer tells
abbrev pub call_told : Result TakenAnswer Reason → Answer
call_told (Ok (Taken.Released p d)) = Released p d
call_told (Ok (Taken.Finished late)) = Finished late
call_told (Ok (Taken.Looked choice)) = Looked choice
call_told (Err e) = Refused (refusal (number e) 0)

-- the call's time
abbrev pub time_of : Call → ℕ
time_of (Release i t) = t.0
time_of (Finish i t) = t.0
time_of (Look k t) = t.0

-- an answer's refusal, 0 if the call is accepted
abbrev pub refusal_in : Answer → ℕ
refusal_in (Refused x) = x.no
refusal_in (Released p d) = 0
refusal_in (Finished late) = 0
refusal_in (Looked choice) = 0

-- the refusal that a call answers
abbrev pub call_refusal : Record → Call → ℕ
call_refusal r c = refusal_in (answered_of r c).answer

-- the record that it hands on
abbrev pub step : Record → Call → Record
step r c = (answered_of r c).next

-- the record after calls
abbrev pub after : Record → List Call → Record
after r [] = r
after r (c ∷ cs) = after (step r c) cs

-- the answers of calls, in order
abbrev pub answers_of : Record → List Call → List Answer
answers_of r [] = []
answers_of r (c ∷ cs) = (answered_of r c).answer ∷ answers_of (step r c) cs

-- a call is a release of task i
abbrev pub releases : ℕ → Call → Bool
releases i (Release j t) = eqb j i
releases i (Finish j t) = false
releases i (Look k t) = false

-- the core that an answer tells, if it is that of an accepted release
abbrev pub core_in : Answer → List ℕ
core_in (Refused x) = []
core_in (Released p d) = p ∷ []
core_in (Finished late) = []
core_in (Looked choice) = []

-- the core that a call answers, if it is an accepted release of task i
abbrev pub core_by : ℕ → Record → Call → List ℕ
core_by i r c = cond (releases i c) (core_in (answered_of r c).answer) []

-- the cores that the accepted releases of task i answer, in order
abbrev pub cores_of : ℕ → Record → List Call → List ℕ
cores_of i r [] = []
cores_of i r (c ∷ cs) = core_by i r c ++ cores_of i (step r c) cs

-- how many of a list of cores are core p
abbrev pub among : ℕ → List ℕ → ℕ
among p [] = 0
among p (k ∷ ks) = bit (eqb k p) + among p ks

-- how many of the first c
abbrev pub sent_to : ℕ → List ℕ → ℕ → ℕ
sent_to p ks c = among p (take c ks)

-- how many of c in a row, after the first a
abbrev pub in_a_row : ℕ → List ℕ → ℕ → ℕ → ℕ
in_a_row p ks a c = among p (take c (drop a ks))
