-- A rehearsal in the words of document 02, R-6. Cores and arrivals are counted from 0 here, tasks and runs from 1, and all of them from 1 in events.
use Rattle.std.specs.Prelude.{ℕ, zero, suc, ◌+◌, ◌-◌, ◌≤◌, ◌<◌, ◌≡◌, Bool, false, cond, ◌&&◌, ltb, leb, eqb, length, get_or}
use mathlib.Core.List.{List, [], ◌∷◌, ◌++◌, Memᴰ}
use Rattle.lists.specs.Lists.{bit}
use Rattle.planning.specs.declared.Plan.{Plan}
use Rattle.dispatch.specs.Release.{release_of}
use Rattle.arrivals.specs.Arrivals.{arrivals_in, arrival_time, arrival_task, arrival_length}
use Rattle.goings.specs.declared.Going.{Going}
use Rattle.goings.specs.Going.{same}
use Rattle.day_lines.specs.declared.Event.{Event}
use Rattle.day_lines.specs.declared.Event.TheVariants.{Finished, Refused, Spanned, Stopped, Unfinished}
use Rattle.day_rules.specs.Day.{Day, going_at, arrivals, looks, runs_on, finishes, day_at}

-- a thing is said
abbrev pub Among : Event → List Event → Type 0
Among e es = Memᴰ e es

-- how many of those that are said pass a test
abbrev pub counted : (Event → Bool) → List Event → ℕ
counted f [] = 0
counted f (e ∷ es) = bit (f e) + counted f es

-- tick t, the first n arrivals taken
abbrev pub arrived_to : Plan → List ℕ → ℕ → ℕ → Day
arrived_to pl xs t n = arrivals xs t n (day_at pl xs t)

-- and all of them, and the first n cores looked at
abbrev pub looked_to : Plan → List ℕ → ℕ → ℕ → Day
looked_to pl xs t n = looks t n (arrived_to pl xs t (arrivals_in xs))

-- and all of these, a tick run, and the runs of the first n cores finished that are done
abbrev pub finished_to : Plan → List ℕ → ℕ → ℕ → Day
finished_to pl xs t n = finishes (suc t) n (runs_on pl.cores (looked_to pl xs t pl.cores))

-- the run that core p has in tick t
unfoldable pub has_in : Plan → List ℕ → ℕ → ℕ → Going
has_in pl xs t p = going_at (looked_to pl xs t pl.cores) p

-- the ticks before t in which core p has run n of task i
abbrev pub ticks_of : Plan → List ℕ → ℕ → ℕ → ℕ → ℕ → ℕ
ticks_of pl xs p i n zero = 0
ticks_of pl xs p i n (suc t) = ticks_of pl xs p i n t + bit (same (has_in pl xs t p) i n)

-- a span of core p covers tick t
abbrev pub covers : ℕ → ℕ → Event → Bool
covers p t (Finished x at late) = false
covers p t (Refused n a i at) = false
covers p t (Spanned x from to) = eqb x.core (suc p) && leb from.0 t && ltb t to.0
covers p t (Stopped at) = false
covers p t (Unfinished x due had n) = false

-- arrival k is released at its time, and not refused
unfoldable pub accepted : Plan → List ℕ → ℕ → Bool
accepted pl xs k = let t = arrival_time xs k in eqb (release_of (arrived_to pl xs t k).box (arrival_task xs k) t).refusal 0

-- of the first n arrivals those of tick t and task i that are accepted, in list order
abbrev pub taken_in : Plan → List ℕ → ℕ → ℕ → ℕ → List ℕ
taken_in pl xs i t zero = []
taken_in pl xs i t (suc k) =
    taken_in pl xs i t k ++ cond (eqb (arrival_time xs k) t && eqb (arrival_task xs k) i && accepted pl xs k) (k ∷ []) []

-- of all arrivals those of the ticks before t
abbrev pub taken_before : Plan → List ℕ → ℕ → ℕ → List ℕ
taken_before pl xs i zero = []
taken_before pl xs i (suc t) = taken_before pl xs i t ++ taken_in pl xs i t (arrivals_in xs)

-- the length of task i's run n: that of its n-th accepted arrival before t
abbrev pub length_of : Plan → List ℕ → ℕ → ℕ → ℕ → ℕ
length_of pl xs t i n = arrival_length xs (get_or (taken_before pl xs i t) (n - 1) 0)

-- t, at most the stop, is the first instant at which run n of task i, an accepted arrival's, has had its length of ticks as core p's choice
pub record FirstHad (pl : Plan) (xs : List ℕ) (stop p i n t : ℕ) : Type 0 where
  pub after : 0 < t
  pub within : t ≤ stop
  pub from : 1 ≤ n
  pub to : n ≤ length (taken_before pl xs i stop)
  pub had : ticks_of pl xs p i n t ≡ length_of pl xs stop i n
  pub first : (u : ℕ) → u < t → ticks_of pl xs p i n u < length_of pl xs stop i n

-- it says that arrival a, from 1, is refused
abbrev pub says_refused : ℕ → Event → Bool
says_refused a (Finished x t late) = false
says_refused a (Refused n b i t) = eqb b a
says_refused a (Spanned x from to) = false
says_refused a (Stopped t) = false
says_refused a (Unfinished x due had n) = false

-- that run n of task i is finished
abbrev pub says_finished : ℕ → ℕ → Event → Bool
says_finished i n (Finished x t late) = eqb x.task i && eqb x.run n
says_finished i n (Refused m a j t) = false
says_finished i n (Spanned x from to) = false
says_finished i n (Stopped t) = false
says_finished i n (Unfinished x due had m) = false

-- that it is unfinished
abbrev pub says_unfinished : ℕ → ℕ → Event → Bool
says_unfinished i n (Finished x t late) = false
says_unfinished i n (Refused m a j t) = false
says_unfinished i n (Spanned x from to) = false
says_unfinished i n (Stopped t) = false
says_unfinished i n (Unfinished x due had m) = eqb x.task i && eqb x.run n

-- of the first k arrivals those of task i before the stop that are not said to be refused
abbrev pub accepted_before : List ℕ → List Event → ℕ → ℕ → ℕ → ℕ
accepted_before xs es stop i zero = 0
accepted_before xs es stop i (suc k) =
    accepted_before xs es stop i k
    + bit (ltb (arrival_time xs k) stop && eqb (arrival_task xs k) i && eqb (counted (says_refused (suc k)) es) 0)

-- the number, from 1, of the run that arrival k makes if it is not refused
abbrev pub run_number : List ℕ → List Event → ℕ → ℕ → ℕ
run_number xs es stop k = suc (accepted_before xs es stop (arrival_task xs k) k)

-- times do not fall
abbrev pub Rising : List ℕ → Type 0
Rising xs = (k : ℕ) → suc k < arrivals_in xs → arrival_time xs k ≤ arrival_time xs (suc k)
