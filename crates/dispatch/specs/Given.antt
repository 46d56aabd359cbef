-- The rows of document 01, "Refusal numbers", that a release, a finish or a look can meet, in the order of their tests, with document 02, R-2.
-- Tasks and cores are from 1.
use Rattle.std.specs.Prelude.{ℕ, ◌+◌, ◌-◌, ◌<◌, ◌≡◌, ◌⊎◌, false}
use Rattle.units.specs.declared.ticks.Ticks.{Ticks}
use Rattle.planning.specs.Tasks.{task_line}
use Rattle.task_state.specs.declared.State.{State}
use Rattle.task_state.specs.State.{run_at}
use Rattle.dispatch.specs.declared.Record.{Record}
use Rattle.dispatch.specs.declared.call.Call.{Call}
use Rattle.dispatch.specs.declared.call.Call.TheVariants.{Release, Finish, Look}
use Rattle.dispatch.specs.Record.{state_at}
use Rattle.dispatch.specs.Sound.{sound_of}

infixr 2 ◌if◌else◌
-- number k is given if its case applies; if it does not, what the later rows give
pub data ◌if◌else◌ (k : ℕ) (Case : Type 0) (Later : ℕ → Type 0) : ℕ → Type 0 where
  here : Case → (k if Case else Later) k
  past : {n : ℕ} → (Case → ⊥) → Later n → (k if Case else Later) n

-- no refusal
abbrev pub none : ℕ → Type 0
none n = n ≡ 0

-- the state of task i
abbrev pub task_state : Record → ℕ → State
task_state r i = state_at r (i - 1)

-- a record handed in is unsound
abbrev pub Unsound : Record → Type 0
Unsound r = sound_of r ≡ false

-- a number is 0 or above n
abbrev pub Out : ℕ → ℕ → Type 0
Out n i = (i ≡ 0) ⊎ (n < i)

-- the call's time is above the clock's limit
abbrev pub Over : Ticks → Type 0
Over t = 1000000000000 < t.0

-- the call's time is below the stored clock
abbrev pub Past : Record → Ticks → Type 0
Past r t = t.0 < r.clock.0

-- the last release time of task i plus T
abbrev pub next_release : Record → ℕ → ℕ
next_release r i = (task_state r i).last.0 + (task_line r.plan i).period.0

-- a release of task i is early: less than T after its last one
abbrev pub Early : Record → ℕ → Ticks → Type 0
Early r i t = ((task_state r i).had ≡ 1) × (t.0 < next_release r i)

-- it is held until a release time above the clock's limit
abbrev pub HeldOver : Record → ℕ → Ticks → Type 0
HeldOver r i t = Early r i t × (1000000000000 < next_release r i)

-- the release time of task i's oldest unfinished run: its deadline less T
abbrev pub oldest_release : Record → ℕ → ℕ
oldest_release r i = (run_at (task_state r i) 0).deadline.0 - (task_line r.plan i).period.0

-- that run is held at time t
abbrev pub OldestHeld : Record → ℕ → Ticks → Type 0
OldestHeld r i t = t.0 < oldest_release r i

-- n runs of task i are unfinished
abbrev pub Unfinished : Record → ℕ → ℕ → Type 0
Unfinished r i n = (task_state r i).live ≡ n

-- a call is refused by number n, or taken where n is 0
abbrev pub Given : Record → Call → ℕ → Type 0
Given r (Release i t) =
    15 if Unsound r
    else 7 if Out r.plan.count i
    else 12 if Over t
    else 8 if Past r t
    else 12 if HeldOver r i t
    else 10 if Unfinished r i 8
    else none
Given r (Finish i t) =
    15 if Unsound r
    else 7 if Out r.plan.count i
    else 12 if Over t
    else 8 if Past r t
    else 11 if Unfinished r i 0 ⊎ OldestHeld r i t
    else none
Given r (Look k t) =
    15 if Unsound r
    else 13 if Out r.plan.cores k
    else 12 if Over t
    else 8 if Past r t
    else none
