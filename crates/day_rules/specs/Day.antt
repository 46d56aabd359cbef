-- A day's rehearsal, document 02, R-6: tick by tick, by the calls that a box makes. Tasks and cores are counted from 0 here, from 1 in calls and events.
use Rattle.std.specs.Prelude.{ℕ, zero, suc, ◌+◌, ◌-◌, Bool, cond, ◌&&◌, ◌||◌, List, [], ◌∷◌, ◌++◌, ltb, eqb, get_or, set, replicate}
use Rattle.units.specs.Limits.{cores_limit, tasks_limit}
use Rattle.units.specs.Units.{ticks}
use Rattle.lists.specs.Lists.{zeros}
use Rattle.planning.specs.declared.Plan.{Plan}
use Rattle.task_state.specs.declared.State.{State}
use Rattle.task_state.specs.State.{run_at}
use Rattle.core_choice.specs.Told.{choice_task}
use Rattle.dispatch.specs.declared.Record.{Record}
use Rattle.dispatch.specs.Record.{record_of, state_at}
use Rattle.dispatch.specs.Release.{release_of}
use Rattle.dispatch.specs.Look.{look_of}
use Rattle.dispatch.specs.Finish.{finish_of}
use Rattle.arrivals.specs.Arrivals.{arrivals_in, arrival_time, arrival_task, arrival_length}
use Rattle.run_lengths.specs.declared.Work.{Work}
use Rattle.run_lengths.specs.Work.{fresh_work, no_work, length_at, number_at, with_length, without_length}
use Rattle.goings.specs.declared.Going.{Going}
use Rattle.goings.specs.Going.{no_going, same, going_of}
use Rattle.day_lines.specs.declared.Ran.{Ran}
use Rattle.day_lines.specs.declared.Event.{Event}
use Rattle.day_lines.specs.declared.Event.TheVariants.{Finished, Refused, Spanned, Stopped, Unfinished}
use Rattle.day_lines.specs.Lines.{events_text}

-- what a rehearsal is at: the box's record; each task's runs' lengths; the ticks that each task's oldest unfinished run has had; the run that has each core;
-- and what was said so far
pub record Day : Type 0 where
  pub box : Record
  pub works : List Work
  pub had : List ℕ
  pub going : List Going
  pub said : List Event

-- a fresh record, and nothing had or said
unfoldable pub start_day : Record → Day
start_day r = record { box = r; works = replicate tasks_limit fresh_work; had = zeros tasks_limit; going = replicate cores_limit no_going; said = [] }

-- the lengths of task i's runs
abbrev pub work_at : Day → ℕ → Work
work_at d i = get_or d.works i no_work

-- the ticks that its oldest unfinished run has had
abbrev pub had_at : Day → ℕ → ℕ
had_at d i = get_or d.had i 0

-- the run that has core p
abbrev pub going_at : Day → ℕ → Going
going_at d p = get_or d.going p no_going

-- a run on core p
abbrev pub ran : ℕ → ℕ → ℕ → Ran
ran p i n = record { core = suc p; task = i; run = n }

-- arrival k of a list is released at t: its run's length is kept if it is taken, and its refusal is said if not
unfoldable pub taken : List ℕ → ℕ → ℕ → Day → Day
taken xs t k d =
    let i = arrival_task xs k in
    let a = release_of d.box i t in
    record {
      box = a.next;
      works = cond (eqb a.refusal 0) (set d.works (i - 1) (with_length (work_at d (i - 1)) (state_at d.box (i - 1)).live (arrival_length xs k)))
          d.works;
      had = d.had;
      going = d.going;
      said = d.said ++ cond (eqb a.refusal 0) [] (Refused a.refusal (suc k) i (ticks t) ∷ []);
    }

-- if t is its time
abbrev pub arrive : List ℕ → ℕ → ℕ → Day → Day
arrive xs t k d = cond (eqb (arrival_time xs k) t) (taken xs t k d) d

-- the first n arrivals, in list order
abbrev pub arrivals : List ℕ → ℕ → ℕ → Day → Day
arrivals xs t zero d = d
arrivals xs t (suc n) d = arrive xs t n (arrivals xs t n d)

-- the number of the oldest unfinished run of a task, from 1; 0 for task 0, which is none
abbrev pub oldest_of : Day → ℕ → ℕ
oldest_of d i = cond (eqb i 0) 0 ((work_at d (i - 1)).ended + 1)

-- the span of a run that had core p ends at t, where run n of task i is another
abbrev pub span_end : ℕ → Going → ℕ → ℕ → ℕ → List Event
span_end p g i n t = cond (same g i n || eqb g.task 0) [] (Spanned (ran p g.task g.run) g.from (ticks t) ∷ [])

-- core p has run n of task i from now on
abbrev pub goes_on : ℕ → ℕ → ℕ → ℕ → Record → Day → Day
goes_on t p i n r d = record {
  box = r;
  works = d.works;
  had = d.had;
  going = set d.going p (going_of (going_at d p) i n t);
  said = d.said ++ span_end p (going_at d p) i n t;
}

-- core p is looked at, at t
unfoldable pub look_at : ℕ → ℕ → Day → Day
look_at t p d =
    let a = look_of d.box (suc p) t in
    let i = choice_task a.choice in
    goes_on t p i (oldest_of d i) a.next d

-- the first n cores are, by rising core
abbrev pub looks : ℕ → ℕ → Day → Day
looks t zero d = d
looks t (suc n) d = look_at t n (looks t n d)

-- core p's run has one tick more
unfoldable pub run_on : ℕ → Day → Day
run_on p d =
    let i = (going_at d p).task in
    record {
      box = d.box;
      works = d.works;
      had = cond (eqb i 0) d.had (set d.had (i - 1) (suc (had_at d (i - 1))));
      going = d.going;
      said = d.said;
    }

-- the runs of the first n cores
abbrev pub runs_on : ℕ → Day → Day
runs_on zero d = d
runs_on (suc n) d = run_on n (runs_on n d)

-- task i's oldest unfinished run has had its length
abbrev pub done : Day → ℕ → Bool
done d i = ltb 0 i && eqb (had_at d (i - 1)) (length_at (work_at d (i - 1)) 0)

-- core p's run is finished at t
unfoldable pub finished : ℕ → ℕ → Day → Day
finished t p d =
    let g = going_at d p in
    let i = g.task in
    let a = finish_of d.box i t in
    record {
      box = a.next;
      works = set d.works (i - 1) (without_length (work_at d (i - 1)));
      had = set d.had (i - 1) 0;
      going = d.going;
      said = d.said ++ (Finished (ran p i g.run) (ticks t) a.late ∷ []);
    }

-- if it has had its length
abbrev pub finish : ℕ → ℕ → Day → Day
finish t p d = cond (done d (going_at d p).task) (finished t p d) d

-- the runs of the first n cores that are done, by rising core
abbrev pub finishes : ℕ → ℕ → Day → Day
finishes t zero d = d
finishes t (suc n) d = finish t n (finishes t n d)

-- tick t: the arrivals of t in list order, a look at each of m cores, one tick for each choice, and the finishes of t + 1
abbrev pub tick : List ℕ → ℕ → ℕ → Day → Day
tick xs m t d = finishes (suc t) m (runs_on m (looks t m (arrivals xs t (arrivals_in xs) d)))

-- the day of a plan at instant t, with the finishes of that instant
unfoldable pub day_at : Plan → List ℕ → ℕ → Day
day_at pl xs zero = start_day (record_of pl)
day_at pl xs (suc t) = tick xs pl.cores t (day_at pl xs t)

-- at the stop the runs that have the first n cores end their spans
abbrev pub closes : ℕ → ℕ → Day → Day
closes t zero d = d
closes t (suc n) d = goes_on t n 0 0 (closes t n d).box (closes t n d)

-- the first n unfinished runs of task i, from 1, by its state, its runs' lengths and the ticks had
abbrev pub runs_left : State → Work → ℕ → ℕ → ℕ → List Event
runs_left st wk had i zero = []
runs_left st wk had i (suc k) =
    let x = run_at st k in
    runs_left st wk had i k
    ++ (Unfinished (record { core = x.core; task = i; run = number_at wk k }) x.deadline (cond (eqb k 0) had 0) (length_at wk k) ∷ [])

-- so of a day's task i, from 0
abbrev pub left_of : Day → ℕ → ℕ → List Event
left_of d i k = runs_left (state_at d.box i) (work_at d i) (had_at d i) (suc i) k

-- the unfinished runs of the first n tasks, by task and run
abbrev pub unfinished : Day → ℕ → List Event
unfinished d zero = []
unfinished d (suc i) = unfinished d i ++ left_of d i (state_at d.box i).live

-- all that a rehearsal of a plan says, with arrivals xs and a stop
unfoldable pub events_of : Plan → List ℕ → ℕ → List Event
events_of pl xs stop =
    let d = day_at pl xs stop in
    (closes stop pl.cores d).said ++ (Stopped (ticks stop) ∷ unfinished d pl.count)

-- and its text
abbrev pub day_text : Plan → List ℕ → ℕ → List ℕ
day_text pl xs stop = events_text (events_of pl xs stop)
