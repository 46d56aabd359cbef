-- The steps' invariant: what the code holds is the model's desk, and what it has written is what that has said.
use Prim.Native.Nat.{ℕ, zero, suc, ◌+◌, ◌-◌, ◌*◌, ◌/◌, ◌≤◌, ◌<◌}
use mathlib.Core.Path.{◌≡◌, refl, sym, ap, ◌∙◌}
use mathlib.Core.Bool.{Bool, true, false, cond, ◌||◌}
use mathlib.Core.List.{List, [], ◌∷◌, ◌++◌}
use native.Mathlib.Nat.{div-add-mod'}
use native.Mathlib.Omega.{arith}
use native.Mathlib.Numerals.{add-one}
use lib.Dec.{ltb, eqb}
use borrow.Author.Tests.{ltb-true, ltb-false}
use native.Mathlib.Decide.{ℕ_discrete}
use Rattle.lists.proofs.Tests.{and_left, or_cases}
use Rattle.writing.specs.Inner.{place_limit}
use Rattle.units.specs.Units.{ticks}
use mathlib.Core.Logic.{◌⊎◌, inl, inr}
use lib.ListN.{length, get_or, set, replicate, get_or-replicate, length-set}
use Rattle.units.specs.Limits.{cores_limit, tasks_limit, clock_limit}
use Rattle.planning.specs.declared.Plan.{Plan}
use Rattle.soundness.proofs.Facts.{ruled, cores_few, tasks_few, weight_small, shares_sum}
use Rattle.soundness.proofs.Numbers.{numbers}
use Rattle.task_state.specs.State.{fresh_state, no_state}
use Rattle.state_rules.proofs.Facts.{facts, unfinished, releasable}
use Rattle.dispatch.proofs.SoundFacts.{sound_facts, due_small}
use Rattle.dispatch.proofs.Records.{task_sound}
use Rattle.arrivals.specs.Arrivals.{arrivals_in, arrival_time, arrival_task, arrival_length}
use Rattle.run_lengths.specs.declared.Work.{Work}
use Rattle.run_lengths.specs.Work.{fresh_work, no_work, without_length}
use Rattle.fronts.specs.Front.{no_front}
use Rattle.fronts.specs.Inner.{Frontable}
use Rattle.seats.specs.declared.Ended.{Ended}
use Rattle.seats.specs.Seat.{Arrived}
use Rattle.seats.specs.Seat.{seat, fresh_seat, no_seat, arrived_of, ended_of}
use Rattle.seats.specs.Inner.{Arrivable, Endable}
use Rattle.day_lines.specs.Lines.{event_text, events_text}
use Rattle.day_window.specs.Window.{Windowed}
use Rattle.day_rules.specs.Spans.{spans_end}
use Rattle.day.specs.Desk.{line_of, state_of, work_of, box_of, within, ends_on, takes, fresh_desk as model_fresh, desk_at}
use Rattle.day.specs.Desk as model
use Rattle.day.proofs.Stands.{Stands, Resting, Ending, ended_next, state_here, work_here}
use Rattle.day.proofs.At.{Fine, fine_of as fine_from, took_stands, state_here as arrived_state, work_here as arrived_work}
use Rattle.day.proofs.Skip.{arrived_none}
use Rattle.goings.specs.Inner.{Addable}
use Rattle.instants.proofs.Next.{next_some, next_most}
use Rattle.instants.proofs.Scanned.{seen_named}
use Rattle.day.proofs.Within.{on_arrivals, within_ending, within_stands}
use Rattle.rehearsal.specs.declared.steps.Desk.{Desk}
use Rattle.rehearsal.specs.Desk.{fresh_desk}
use Rattle.rehearsal.specs.Parts.{coming_at, done_by, fresh_fronts, core_after}
use Rattle.rehearsal.specs.Inner.{on_core, Rehearsable, Blank, Stood}
use Rattle.rehearsal.proofs.Here.{Holds, Stage, still, finished, small, few, arrived, coming_now, ticks_some, jumped_by}
use Rattle.rehearsal.proofs.Parted.{coming_cases, fresh_front, fresh_rows}
use Rattle.day_window.proofs.Windows.{none, then, recast}
use Rattle.day_lines.proofs.Events.{events_append, events_more}
use Rattle.day_lines.specs.declared.Event.TheVariants.{Finished, Refused}
use Rattle.goings.specs.declared.Going.{Going}
use Rattle.instants.specs.declared.Seen.{Seen}
use Rattle.instants.specs.Seen.{idle, seen_of, next_of, least_left}
use Rattle.goings.specs.Going.{no_going, ran_by}
use Rattle.instants.specs.Goings.{goings_of, gone_on}
use Rattle.instants.proofs.Least.{least_most}
use Rattle.instants.proofs.GoingsAt.{goings_at as goings_at_each}
use Rattle.instants.proofs.GoneOn.{gone_long, gone_are}
use Rattle.goings.specs.Rows.{going_at, goings_in}
use Rattle.goings.proofs.Rows.{goings_long, goings_at, goings_none}
use Rattle.goings.proofs.Ran.{ran_long}
use Rattle.front_rows.specs.Rows.{front_at, fronts_in, put_front}
use Rattle.front_rows.proofs.Rows.{fronts_long, fronts_at, put_long, fronts_put}
use Rattle.day.proofs.Looked.{goes_task}

-- what is asked is what the laws ask
pub fine_of : {pl : Plan} {xs : List ℕ} {stop : ℕ} → Rehearsable pl xs stop → Fine pl xs
fine_of q = fine_from q.shaped q.sound q.fine

pub some_core : {pl : Plan} {xs : List ℕ} {stop : ℕ} → Rehearsable pl xs stop → 0 < pl.cores
some_core {pl} q = (numbers pl (ruled pl q.sound).numbers).cores_some

pub record Rehearsing (pl : Plan) (xs : List ℕ) (stop skip : ℕ) (before now fs hs gs : List ℕ) (d : Desk) : Type 0 where
  pub stage : Stage pl xs stop d.time d.next d.core
  pub holds : Holds pl (within pl xs d.time d.next d.core) d.seats (fronts_in fs) hs (goings_in gs)
  pub fronts : length fs ≡ 7 * tasks_limit
  pub long : length hs ≡ tasks_limit
  pub wide : length gs ≡ 3 * cores_limit
  pub cores : d.cores ≡ pl.cores
  pub wrote : Windowed before skip 0 (events_text (within pl xs d.time d.next d.core).said) now d.end
  pub near : d.end ≤ 180 * (33 * d.time + d.next + d.core)

-- an arrival's three numbers lie inside
pub triple_in : (n k : ℕ) → k < n / 3 → 3 * k + 2 < n
triple_in n k h = omega (arith, div-add-mod' n 3, h)

-- a task's front can be asked for
pub frontable : (pl : Plan) (t : ℕ) (d : model.Desk) → Stands pl t d → (i : ℕ) → i < pl.count → (work_of d i).ended ≤ clock_limit
    → Frontable (line_of pl i) (state_of d i) (work_of d i)
frontable pl t d s i l few =
    let r = box_of pl t d in
    let f = facts (line_of pl i) (state_of d i) (task_sound r s.good i l) in
    record {
      placed = λ live. (unfinished (line_of pl i) (state_of d i) f 0 live).from;
      here = λ live. (unfinished (line_of pl i) (state_of d i) f 0 live).to;
      due = λ live. due_small r (sound_facts r s.good.sound) i l;
      few = few;
    }

-- one run more has ended
ended_few : (wk : Work) (t : ℕ) → wk.ended < t → t ≤ clock_limit → (without_length wk).ended ≤ clock_limit
unfolding without_length
ended_few wk t h l = omega (arith, h, l)

-- a run that is done can be ended
pub can_end : (pl : Plan) (t c : ℕ) (d : model.Desk) → t ≤ clock_limit → (e : Ending pl t c d) → (l : c < pl.cores) → (i : ℕ)
    → (on : (model.run_of d c).task ≡ suc i)
    → Endable (line_of pl i) (state_of d i) (work_of d i) t
can_end pl t c d upto e l i on =
    let b = e.busy c i (omega arith) l on in
    let r = box_of pl t d in
    let g = e.stands.good in
    let n = ended_next pl t c d e l i on in
    let st = state_here pl t c d e l i on in
    let wk = work_here pl t c d e l i on in
    record {
      live = b.live;
      time = omega (arith, upto);
      due = omega (arith, due_small r (sound_facts r g.sound) i b.task);
      few = omega (arith, b.few, upto);
      then = rw (st, wk) at (frontable pl t (ends_on t c d) n.stands i b.task (rw wk (ended_few (work_of d i) t b.few upto)));
    }

-- an arrival can be tested, and taken
pub can_arrive : (pl : Plan) (xs : List ℕ) (t k : ℕ) (d : model.Desk) → t ≤ clock_limit → (f : Fine pl xs) → Stands pl t d → Resting pl t d
    → (l : k < arrivals_in xs)
    → let i = arrival_task xs k - 1 in Arrivable (line_of pl i) (state_of d i) (work_of d i) t (arrival_length xs k)
can_arrive pl xs t k d upto f s rest l =
    let i = arrival_task xs k - 1 in
    let h : i < pl.count = omega (arith, f.from k l, f.to k l) in
    let r = box_of pl t d in
    let q = facts (line_of pl i) (state_of d i) (task_sound r s.good i h) in
    let few : (work_of d i).ended ≤ clock_limit = omega (arith, (rest i h).few, upto) in
    record {
      last = q.last;
      now = frontable pl t d s i h few;
      can = λ z. releasable (line_of pl i) (state_of d i) q t z (weight_small pl f.sound i h) (shares_sum pl f.sound i h);
      then = λ z.
          let a = took_stands pl xs t k d s rest (f.from k l) (f.to k l) (f.some k l) (f.fits k l) in
          let st = arrived_state pl xs t k d s rest (f.from k l) (f.to k l) (f.some k l) (f.fits k l) z in
          let wk = arrived_work pl xs t k d s rest (f.from k l) (f.to k l) (f.some k l) (f.fits k l) z in
          rw (st, wk) at (frontable pl t (takes pl xs t k d) a.0 i h (omega (arith, (a.1 i h).few, upto)));
    }

-- nothing yet
fresh_holds : (pl : Plan) (xs : List ℕ) → pl.count ≤ tasks_limit → {fs hs gs : List ℕ} → Blank fs hs gs
    → Holds pl (desk_at pl xs 0) (replicate tasks_limit fresh_seat) (fronts_in (fresh_fronts fs pl.lines pl.count)) hs (goings_in gs)
unfolding desk_at model_fresh fresh_seat
fresh_holds pl xs few {fs} b = record {
  seats = refl;
  fronts = fronts_long (fresh_fronts fs pl.lines pl.count);
  seated = λ i l.
      get_or-replicate tasks_limit i (seat fresh_state fresh_work) no_seat l
      ∙ rw (get_or-replicate tasks_limit i fresh_state no_state l, get_or-replicate tasks_limit i fresh_work no_work l) refl;
  front = λ i l.
      fresh_front fs b.fronts pl.lines pl.count i l few
      ∙ rw (
        get_or-replicate tasks_limit i fresh_state no_state (omega (arith, l, few)),
        get_or-replicate tasks_limit i fresh_work no_work
            (omega (arith, l, few)),
      ) refl;
  had = b.had;
  going = ap goings_in b.goings ∙ goings_none;
}

-- nothing said
fresh_said : (pl : Plan) (xs : List ℕ) → (desk_at pl xs 0).said ≡ []
unfolding desk_at model_fresh
fresh_said pl xs = refl

pub begun : (pl : Plan) (xs : List ℕ) (stop skip : ℕ) (before : List ℕ) → Rehearsable pl xs stop → {fs hs gs : List ℕ} → Blank fs hs gs
    → Rehearsing pl xs stop skip before before (fresh_fronts fs pl.lines pl.count) hs gs (fresh_desk pl.cores)
unfolding fresh_desk
begun pl xs stop skip before q {fs} b = record {
  stage = record {
    time = omega arith;
    core = omega arith;
    next = omega arith;
    begun = λ l. absurd (omega (arith, l));
    before = λ j b. absurd (omega (arith, b));
    ending = λ l. absurd (omega (arith, l));
    ended = λ z j b. absurd (omega (arith, b));
    coming = λ j a b. omega arith;
  };
  holds = rw (on_arrivals pl xs 0 0 pl.cores (omega arith)) (fresh_holds pl xs (tasks_few pl q.sound) b);
  fronts = fresh_rows fs pl.lines pl.count ∙ b.fronts;
  long = rw b.had refl;
  wide = rw b.goings refl;
  cores = refl;
  wrote = rw (on_arrivals pl xs 0 0 pl.cores (omega arith), fresh_said pl xs) (none before skip 0);
  near = omega arith;
}

module _ {pl : Plan} {xs : List ℕ} {stop skip : ℕ} {before now fs hs gs : List ℕ} {d : Desk} (q : Rehearsable pl xs stop)
    (h : Rehearsing pl xs stop skip before now fs hs gs d) where
  -- the model's desk here
  abbrev here : model.Desk
  here = within pl xs d.time d.next d.core

  -- the instant is within the clock's limit
  pub time_in : d.time ≤ clock_limit
  time_in = omega (arith, h.stage.time, q.upto)

  -- what is written is not long
  pub small_end : d.end ≤ 10000000000000000
  small_end = omega (arith, h.near, h.stage.next, q.fine.few, h.stage.core, cores_few pl q.sound, time_in)

  -- there is room for any line
  pub room : d.end + 180 * 20 ≤ place_limit
  room = omega (arith, h.near, h.stage.next, q.fine.few, h.stage.core, cores_few pl q.sound, time_in)

  -- a core's run may be done
  module _ (l : d.core < d.cores) where
    inside : d.core < pl.cores
    inside = omega (arith, l, h.cores)

    pub core_in_lem : d.core < cores_limit
    core_in_lem = omega (arith, inside, cores_few pl q.sound)

    abbrev run : Going
    run = going_at gs d.core

    -- as the model has it
    run_is : get_or (goings_in gs) d.core no_going ≡ run
    run_is = goings_at gs d.core core_in_lem

    abbrev i : ℕ
    i = run.task - 1

    -- a task's place
    small_in : (n : ℕ) → run.task ≡ suc n → n < tasks_limit
    small_in n e =
        small pl xs (fine_of q) stop q.upto d.time d.next d.core h.stage d.seats (fronts_in fs) hs (goings_in gs) h.holds inside n
        (ap (λ (g : Going). g.task) run_is ∙ e)

    -- its task's place
    pub place_small : i < tasks_limit
    place_small = go run.task refl
      where
        go : (n : ℕ) → run.task ≡ n → i < tasks_limit
        go zero e = omega (arith, e)
        go (suc n) e = omega (arith, e, small_in n e)

    abbrev is_done : Bool
    is_done = done_by run.task (front_at fs i).length (get_or hs i 0)

    -- as the model has it
    done_is : {b : Bool} → is_done ≡ b
        → let g = get_or (goings_in gs) d.core no_going in done_by g.task (get_or (fronts_in fs) (g.task - 1) no_front).length (get_or hs (g.task - 1) 0) ≡ b
    done_is z = rw (run_is, fronts_at fs i place_small) z

    -- it is not: the next core
    pub still_on : is_done ≡ false → Rehearsing pl xs stop skip before now fs hs gs (record {
      seats = d.seats;
      time = d.time;
      next = d.next;
      core = d.core + 1;
      cores = d.cores;
      end = d.end;
    })
    still_on z =
        let s = still pl xs (fine_of q) stop q.upto d.time d.next d.core h.stage d.seats (fronts_in fs) hs (goings_in gs)
        h.holds inside (done_is z) in
        rw (add-one d.core) (record {
          stage = s.0;
          holds = s.1;
          fronts = h.fronts;
          long = h.long;
          wide = h.wide;
          cores = h.cores;
          wrote = rw s.2 h.wrote;
          near = omega (arith, h.near);
        })

    module _ (z : is_done ≡ true) where
      -- its task
      pub task_is : run.task ≡ suc i
      task_is = let k = ltb-true 0 run.task (and_left (ltb 0 run.task) (eqb (get_or hs i 0) (front_at fs i).length) z) in omega (arith, k)

      has_task : (get_or (goings_in gs) d.core no_going).task ≡ suc i
      has_task = ap (λ (g : Going). g.task) run_is ∙ task_is

      pub endable : Endable (line_of pl i) (get_or d.seats i no_seat).state (get_or d.seats i no_seat).work d.time
      endable =
          let e = within_ending pl xs (fine_of q) d.time d.next d.core (h.stage.begun inside) time_in inside in
          rw (h.holds.seated i place_small) (can_end pl d.time d.core here time_in e inside i
          (ap (λ (ys : List Going). (get_or ys d.core no_going).task) (sym h.holds.going) ∙ has_task))

      -- it is: it ends
      pub ended_on : {x : Ended} → x ≡ ended_of (line_of pl i) (get_or d.seats i no_seat).state (get_or d.seats i no_seat).work d.time
          → {now' : List ℕ} {end' : ℕ}
          → Windowed now skip d.end (event_text (Finished (on_core (d.core + 1) run) (ticks d.time) x.late)) now' end'
          → end' ≤ d.end + 180
          → Rehearsing pl xs stop skip before now' (put_front fs i x.front) (set hs i 0) gs (record {
            seats = set d.seats i x.seat;
            time = d.time;
            next = d.next;
            core = d.core + 1;
            cores = d.cores;
            end = end';
          })
      ended_on {x} e {now'} {end'} w b =
          let s = finished pl xs (fine_of q) stop q.upto d.time d.next d.core h.stage d.seats (fronts_in fs) hs (goings_in gs) h.holds
          inside i has_task (done_is z) x e in
          let v = rw (add-one d.core) at w in
          let u = rw run_is at s.2 in
          rw (add-one d.core) (record {
            stage = s.0;
            holds = rw (fronts_put fs h.fronts i place_small x.front) s.1;
            fronts = put_long fs i x.front ∙ h.fronts;
            long = length-set hs i 0 ∙ h.long;
            wide = h.wide;
            cores = h.cores;
            wrote = recast (sym (events_more here.said _) ∙ ap events_text (sym u)) (then h.wrote v);
            near = omega (arith, h.near, b);
          })

  -- the cores are through
  module _ (over : d.cores ≤ d.core) (onward : (ltb d.core d.cores || ltb d.time stop) ≡ true) where
    pub early : d.time < stop
    early = go (or_cases (ltb d.core d.cores) (ltb d.time stop) onward)
      where
        go : (ltb d.core d.cores ≡ true) ⊎ (ltb d.time stop ≡ true) → d.time < stop
        go (inl e) = absurd (omega (arith, over, ltb-true d.core d.cores e))
        go (inr e) = ltb-true d.time stop e

    past : pl.cores ≤ d.core
    past = omega (arith, over, h.cores)

    -- an arrival comes now
    module _ (now-is : coming_at xs d.next stop ≡ d.time) where
      comes : (d.next < arrivals_in xs) × (arrival_time xs d.next ≡ d.time)
      comes = go (coming_cases xs d.next stop)
        where
          go : ((d.next < arrivals_in xs) × (arrival_time xs d.next < stop) × (coming_at xs d.next stop ≡ arrival_time xs d.next))
              ⊎ ((coming_at xs d.next stop ≡ stop) × ((d.next < arrivals_in xs) → stop ≤ arrival_time xs d.next))
              → (d.next < arrivals_in xs) × (arrival_time xs d.next ≡ d.time)
          go (inl (a, b, e)) = (a, sym e ∙ now-is)
          go (inr (e, g)) = absurd (omega (arith, e, now-is, early))

      pub coming_here : d.next < arrivals_in xs
      coming_here = comes.0

      abbrev j : ℕ
      j = arrival_task xs d.next - 1

      pub from_one : 1 ≤ arrival_task xs d.next
      from_one = q.fine.task_from d.next coming_here

      pub seat_small : j < tasks_limit
      seat_small = few pl xs (fine_of q) stop q.upto d.time d.next d.core h.stage d.seats (fronts_in fs) hs (goings_in gs)
          h.holds past early
          coming_here comes.1

      pub arrivable : Arrivable (line_of pl j) (get_or d.seats j no_seat).state (get_or d.seats j no_seat).work d.time (arrival_length xs d.next)
      arrivable =
          let s = within_stands pl xs (fine_of q) d.time d.next d.core time_in past h.stage.next in
          rw (h.holds.seated j seat_small) (can_arrive pl xs d.time d.next here time_in (fine_of q) s.0 s.1 coming_here)

      pub arrived_on : {x : Arrived}
          → x ≡ arrived_of (line_of pl j) (get_or d.seats j no_seat).state (get_or d.seats j no_seat).work d.time (arrival_length xs d.next)
          → {now' : List ℕ} {end' : ℕ}
          → Windowed now skip d.end (events_text (cond (eqb x.refusal 0) [] (Refused x.refusal (d.next + 1) (j + 1) (ticks d.time) ∷ []))) now' end'
          → end' ≤ d.end + 180
          → Rehearsing pl xs stop skip before now' (put_front fs j x.front) hs gs (record {
            seats = set d.seats j x.seat;
            time = d.time;
            next = d.next + 1;
            core = d.core;
            cores = d.cores;
            end = end';
          })
      arrived_on {x} e {now'} {end'} w b =
          let s = arrived pl xs (fine_of q) stop q.upto d.time d.next d.core h.stage d.seats (fronts_in fs) hs (goings_in gs)
          h.holds past early
          coming_here comes.1 x e in
          let back : j + 1 ≡ arrival_task xs d.next = omega (arith, from_one) in
          let v = rw (add-one d.next, back) at w in
          rw (add-one d.next) (record {
            stage = s.0;
            holds = rw (fronts_put fs h.fronts j seat_small x.front) s.1;
            fronts = put_long fs j x.front ∙ h.fronts;
            long = h.long;
            wide = h.wide;
            cores = h.cores;
            wrote = recast (sym (events_append here.said _) ∙ ap events_text (sym s.2)) (then h.wrote v);
            near = omega (arith, h.near, b);
          })

    -- nothing comes now: a jump
    module _ (now-not : coming_at xs d.next stop ≡ d.time → ⊥) where
      abbrev v : ℕ
      v = coming_at xs d.next stop

      -- each core's choice, the next instant at which something may happen, the ticks until then, and the next core
      abbrev chosen : List Seen
      chosen = seen_of (fronts_in fs) hs d.time pl.count

      abbrev until : ℕ
      until = next_of (fronts_in fs) d.time v pl.count

      abbrev on : ℕ
      on = least_left chosen (until - d.time) pl.cores

      abbrev core_on : ℕ
      core_on = core_after chosen (until - d.time) pl.cores

      -- the runs that have the cores then
      abbrev going_on : List Going
      going_on = goings_of (goings_in gs) chosen d.time pl.cores

      law : Stage pl xs stop (d.time + on) d.next core_on
          × Holds pl (within pl xs (d.time + on) d.next core_on) d.seats (fronts_in fs) (ran_by going_on on hs pl.cores) going_on
          × ((within pl xs (d.time + on) d.next core_on).said ≡ here.said ++ spans_end (goings_in gs) going_on d.time pl.cores)
      law =
          jumped_by pl xs (fine_of q) q.fine.rising stop q.upto (some_core q) d.time d.next d.core h.stage d.seats (fronts_in fs) hs
          (goings_in gs) h.holds past early now-not

      on_some : 0 < on
      on_some =
          ticks_some pl xs (fine_of q) q.fine.rising stop q.upto (some_core q) d.time d.next d.core h.stage d.seats (fronts_in fs) hs
          (goings_in gs) h.holds past early now-not

      pub on_by : 0 < least_left chosen (until - d.time) d.cores
      on_by = rw h.cores on_some

      coming_in : (d.time < v) × (v ≤ stop)
      coming_in =
          let c = coming_now pl xs (fine_of q) q.fine.rising stop q.upto (some_core q) d.time d.next d.core h.stage d.seats
          (fronts_in fs) hs (goings_in gs) h.holds past early now-not in
          (c.0, c.1)

      -- what is asked of a jump
      pub until_in : (d.time ≤ until) × (until ≤ clock_limit)
      until_in =
          let some = next_some (fronts_in fs) d.time v pl.count coming_in.0 in
          let most = next_most (fronts_in fs) d.time v pl.count in
          (omega (arith, some), omega (arith, most, coming_in.1, q.upto))

      -- it is not beyond the stop
      pub on_most : least_left chosen (until - d.time) d.cores ≤ clock_limit
      on_most = omega (arith, least_most chosen (until - d.time) d.cores, until_in.1)

      had_in : (i : ℕ) → get_or hs i 0 ≤ clock_limit
      had_in i = rw h.holds.had (go (ltb i pl.count) refl)
        where
          at : Stands pl d.time here × Resting pl d.time here
          at = within_stands pl xs (fine_of q) d.time d.next d.core time_in past h.stage.next

          go : (b : Bool) → ltb i pl.count ≡ b → model.had_of here i ≤ clock_limit
          go false z = omega (arith, at.0.nobody i (ltb-false i pl.count z))
          go true z = live_or (ltb-true i pl.count z) (ℕ_discrete (state_of here i).live 0)
            where
              live_or : i < pl.count → Dec ((state_of here i).live ≡ 0) → model.had_of here i ≤ clock_limit
              live_or l (yes e) = omega (arith, (at.1 i l).none e)
              live_or l (no e) =
                  let some : 0 < (state_of here i).live = omega (arith, e) in
                  omega (arith, (at.1 i l).within some, (at.0.each i l).fits 0 some)

      -- what the code has in place of them
      module _ {gs' : List ℕ} (gone : gs' ≡ gone_on gs chosen d.time d.cores) where
        going_is : goings_in gs' ≡ going_on
        going_is = rw (gone, h.cores) (gone_are gs chosen d.time h.wide pl.cores (cores_few pl q.sound))

        wide_then : length gs' ≡ 3 * cores_limit
        wide_then = rw gone (gone_long gs chosen d.time d.cores) ∙ h.wide

        -- the task that has a core then is its choice
        task_on : (p : ℕ) → p < pl.cores → (going_at gs' p).task ≡ (get_or chosen p idle).task
        task_on p l =
            let few = cores_few pl q.sound in
            let e = goings_at_each (goings_in gs) chosen d.time pl.cores p l (omega (arith, goings_long gs, few)) in
            ap (λ (g : Going). g.task) (sym (goings_at gs' p (omega (arith, l, few))) ∙ ap (λ (ys : List Going). get_or ys p no_going) going_is ∙ e)
            ∙ goes_task (get_or (goings_in gs) p no_going) (get_or chosen p idle).task (get_or chosen p idle).run d.time

        named : (p : ℕ) → p < pl.cores → (going_at gs' p).task ≤ tasks_limit
        named p l = omega (arith, task_on p l, seen_named (fronts_in fs) hs d.time pl.count p, tasks_few pl q.sound)

        pub addable : Addable hs gs' d.cores (least_left chosen (until - d.time) d.cores)
        addable = record {
          few = omega (arith, h.cores, cores_few pl q.sound);
          small = on_most;
          wide = wide_then;
          long = h.long;
          named = λ p l. named p (omega (arith, l, h.cores));
          had = had_in;
        }

        pub jumped_next : {m c : ℕ} {hs' : List ℕ} → m ≡ least_left chosen (until - d.time) d.cores → c ≡ core_after chosen (until - d.time) d.cores
            → hs' ≡ ran_by (goings_in gs') m hs d.cores
            → {now' : List ℕ} {end' : ℕ}
            → let ys = goings_in gs in
            Windowed now skip d.end (events_text (spans_end ys (goings_of ys chosen d.time d.cores) d.time d.cores)) now' end'
            → end' ≤ d.end + 180 * d.cores
            → Rehearsing pl xs stop skip before now' fs hs' gs' (record {
              seats = d.seats;
              time = d.time + m;
              next = d.next;
              core = c;
              cores = d.cores;
              end = end';
            })
        jumped_next {m} {c} {hs'} a b r {now'} {end'} w near =
            let e : m ≡ on = a ∙ rw h.cores refl in
            let k : c ≡ core_on = b ∙ rw h.cores refl in
            let o : hs' ≡ ran_by going_on on hs pl.cores = r ∙ rw (h.cores, e, going_is) refl in
            let u = rw h.cores at w in
            rw (e, k) (record {
              stage = law.0;
              holds = rw (o, going_is) law.1;
              fronts = h.fronts;
              long = rw r (ran_long (goings_in gs') m hs d.cores) ∙ h.long;
              wide = wide_then;
              cores = h.cores;
              wrote = recast (sym (events_append here.said _) ∙ ap events_text (sym law.2)) (then h.wrote u);
              near = omega (arith, h.near, near, h.cores, cores_few pl q.sound, on_some, over);
            })

  -- the stop is reached
  module _ (over : d.cores ≤ d.core) (late : stop ≤ d.time) where
    at_stop : here ≡ desk_at pl xs stop
    at_stop =
        let e : d.time ≡ stop = omega (arith, late, h.stage.time) in
        on_arrivals pl xs d.time d.next d.core (omega (arith, over, h.cores))
        ∙ arrived_none pl xs d.time d.next (desk_at pl xs d.time) (λ j l z. omega (arith, h.stage.ended e j l, z))
        ∙ ap (desk_at pl xs) e

    pub stood : Stood pl xs stop d hs gs
    stood = let o = rw at_stop at h.holds in record { seated = o.seated; had = o.had; going = o.going; long = h.long; wide = h.wide }

    pub written : Windowed before skip 0 (events_text (desk_at pl xs stop).said) now d.end
    written = rw at_stop at h.wrote
