-- The plain model of a rehearsal: each task's state without the record's clock and its tests. It stands for no rule; `proofs/Same` shows that a day is it.
use Rattle.std.specs.Prelude.{ℕ, zero, suc, ◌+◌, ◌-◌, Bool, cond, ◌&&◌, List, [], ◌∷◌, ◌++◌, ltb, eqb, get_or, set, replicate}
use Rattle.std.proofs.Math.IntN.{sub_ℕ}
use Rattle.units.specs.Limits.{cores_limit, tasks_limit}
use Rattle.units.specs.Units.{ticks}
use Rattle.lists.specs.Lists.{zeros}
use Rattle.planning.specs.declared.Line.{Line}
use Rattle.planning.specs.declared.Plan.{Plan}
use Rattle.planning.specs.Plan.{no_line}
use Rattle.task_state.specs.declared.State.{State}
use Rattle.task_state.specs.State.{fresh_state, no_state}
use Rattle.task_state.specs.Due.{release_at}
use Rattle.task_state.specs.Runs.{with_run, without_run}
use Rattle.task_state.specs.Tests.{release_tests}
use Rattle.task_state.specs.Key.{deadline_of}
use Rattle.core_choice.specs.Told.{choice_task}
use Rattle.dispatch.specs.declared.Record.{Record}
use Rattle.dispatch.specs.Look.{choice_of}
use Rattle.arrivals.specs.Arrivals.{arrivals_in, arrival_time, arrival_task, arrival_length}
use Rattle.run_lengths.specs.declared.Work.{Work}
use Rattle.run_lengths.specs.Work.{fresh_work, no_work, length_at, with_length, without_length}
use Rattle.goings.specs.declared.Going.{Going}
use Rattle.goings.specs.Going.{no_going, going_of, ran_by}
use Rattle.day_lines.specs.declared.Event.{Event}
use Rattle.day_lines.specs.declared.Event.TheVariants.{Finished, Refused}
use Rattle.day_rules.specs.Day.{Day, ran, span_end}

-- the tasks' states and their runs' lengths, the ticks had, the runs that have the cores, what was said
pub record Desk : Type 0 where
  pub states : List State
  pub works : List Work
  pub had : List ℕ
  pub going : List Going
  pub said : List Event

-- a day without its record's plan and clock
abbrev pub desk_of : Day → Desk
desk_of d = record { states = d.box.states; works = d.works; had = d.had; going = d.going; said = d.said }

-- task i's line
abbrev pub line_of : Plan → ℕ → Line
line_of pl i = get_or pl.lines i no_line

-- its state
abbrev pub state_of : Desk → ℕ → State
state_of d i = get_or d.states i no_state

-- its runs' lengths
abbrev pub work_of : Desk → ℕ → Work
work_of d i = get_or d.works i no_work

-- the ticks that its oldest run has had
abbrev pub had_of : Desk → ℕ → ℕ
had_of d i = get_or d.had i 0

-- the run that has core p
abbrev pub run_of : Desk → ℕ → Going
run_of d p = get_or d.going p no_going

-- as a record of the plan, at t
abbrev pub box_of : Plan → ℕ → Desk → Record
box_of pl t d = record { plan = pl; clock = ticks t; states = d.states }

-- nothing yet
unfoldable pub fresh_desk : Desk
fresh_desk = record {
  states = replicate tasks_limit fresh_state;
  works = replicate tasks_limit fresh_work;
  had = zeros tasks_limit;
  going = replicate cores_limit no_going;
  said = [];
}

-- arrival k's refusal, 0 if it is taken
abbrev pub arrival_no : Plan → List ℕ → ℕ → ℕ → Desk → ℕ
arrival_no pl xs t k d = let i = arrival_task xs k - 1 in release_tests (line_of pl i) (state_of d i) t

-- arrival k is released at t
unfoldable pub takes : Plan → List ℕ → ℕ → ℕ → Desk → Desk
takes pl xs t k d =
    let i = arrival_task xs k - 1 in
    let ok = eqb (arrival_no pl xs t k d) 0 in
    record {
      states = cond ok (set d.states i (with_run (line_of pl i) (state_of d i) (release_at (line_of pl i) (state_of d i) t))) d.states;
      works = cond ok (set d.works i (with_length (work_of d i) (state_of d i).live (arrival_length xs k))) d.works;
      had = d.had;
      going = d.going;
      said = d.said ++ cond ok [] (Refused (arrival_no pl xs t k d) (suc k) (arrival_task xs k) (ticks t) ∷ []);
    }

-- if t is its time
abbrev pub arrives : Plan → List ℕ → ℕ → ℕ → Desk → Desk
arrives pl xs t k d = cond (eqb (arrival_time xs k) t) (takes pl xs t k d) d

-- the first n arrivals
abbrev pub arrived_by : Plan → List ℕ → ℕ → ℕ → Desk → Desk
arrived_by pl xs t zero d = d
arrived_by pl xs t (suc n) d = arrives pl xs t n (arrived_by pl xs t n d)

-- core p's choice at t, a task from 1, 0 where it is idle
unfoldable pub choice_at : Plan → ℕ → Desk → ℕ → ℕ
choice_at pl t d p = choice_task (choice_of (box_of pl t d) (suc p))

-- the number of the oldest unfinished run of a task, from 1; 0 for task 0, which is none
abbrev pub number_of : Desk → ℕ → ℕ
number_of d i = cond (eqb i 0) 0 ((work_of d (i - 1)).ended + 1)

-- core p has run n of task i from now on
abbrev pub has_core : ℕ → ℕ → ℕ → ℕ → Desk → Desk
has_core t p i n d = record {
  states = d.states;
  works = d.works;
  had = d.had;
  going = set d.going p (going_of (run_of d p) i n t);
  said = d.said ++ span_end p (run_of d p) i n t;
}

-- core p is looked at
unfoldable pub looks_at : Plan → ℕ → ℕ → Desk → Desk
looks_at pl t p d = let i = choice_at pl t d p in has_core t p i (number_of d i) d

-- the first n cores are
abbrev pub looked_at : Plan → ℕ → ℕ → Desk → Desk
looked_at pl t zero d = d
looked_at pl t (suc n) d = looks_at pl t n (looked_at pl t n d)

-- the runs that have the first n cores have had m ticks more
unfoldable pub ran_on : ℕ → ℕ → Desk → Desk
ran_on m n d = record { states = d.states; works = d.works; had = ran_by d.going m d.had n; going = d.going; said = d.said }

-- task i's oldest unfinished run has had its length
abbrev pub done_of : Desk → ℕ → Bool
done_of d i = ltb 0 i && eqb (had_of d (i - 1)) (length_at (work_of d (i - 1)) 0)

-- core p's run ends at t
unfoldable pub ends_on : ℕ → ℕ → Desk → Desk
ends_on t p d =
    let g = run_of d p in
    let i = g.task in
    record {
      states = set d.states (i - 1) (without_run (state_of d (i - 1)));
      works = set d.works (i - 1) (without_length (work_of d (i - 1)));
      had = set d.had (i - 1) 0;
      going = d.going;
      said = d.said ++ (Finished (ran p i g.run) (ticks t) (sub_ℕ t (deadline_of (state_of d (i - 1)))) ∷ []);
    }

-- if it has had its length
abbrev pub ends : ℕ → ℕ → Desk → Desk
ends t p d = cond (done_of d (run_of d p).task) (ends_on t p d) d

-- of the first n cores
abbrev pub ended_by : ℕ → ℕ → Desk → Desk
ended_by t zero d = d
ended_by t (suc n) d = ends t n (ended_by t n d)

-- from tick t, its arrivals taken, m ticks on at once, of which at most the last ends runs
abbrev pub leap : Plan → ℕ → ℕ → Desk → Desk
leap pl t m d = ended_by (t + m) pl.cores (ran_on m pl.cores (looked_at pl t pl.cores d))

-- the desk of a plan at instant t
unfoldable pub desk_at : Plan → List ℕ → ℕ → Desk
desk_at pl xs zero = fresh_desk
desk_at pl xs (suc t) = leap pl t 1 (arrived_by pl xs t (arrivals_in xs) (desk_at pl xs t))

-- the desk at instant t before its finishes
unfoldable pub ran_at : Plan → List ℕ → ℕ → Desk
ran_at pl xs zero = fresh_desk
ran_at pl xs (suc t) = ran_on 1 pl.cores (looked_at pl t pl.cores (arrived_by pl xs t (arrivals_in xs) (desk_at pl xs t)))

-- within instant t: the finishes of the first c cores are made, or all of them and the first k arrivals are taken
abbrev pub within : Plan → List ℕ → ℕ → ℕ → ℕ → Desk
within pl xs t k c = cond (ltb c pl.cores) (ended_by t c (ran_at pl xs t)) (arrived_by pl xs t k (desk_at pl xs t))
