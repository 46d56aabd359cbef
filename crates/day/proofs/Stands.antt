-- What a rehearsal keeps of a desk: a good record, and of each task its runs' lengths and less had than the oldest's.
use Prim.Native.Nat.{ℕ, suc, ◌+◌, ◌-◌, ◌*◌, ◌≤◌, ◌<◌}
use mathlib.Core.Path.{◌≡◌, refl, sym, ap, ◌∙◌}
use native.Mathlib.Decide.{ℕ_discrete}
use native.Mathlib.Omega.{arith}
use lib.Dec.{ltb, eqb}
use lib.ListN.{length, set, length-set, get_or-eq_default}
use lib.Seq.{get_or-set_same, get_or-set_other}
use borrow.Author.Tests.{eqb-true, ltb-true, ltb-false}
use Rattle.lists.proofs.Tests.{by_cases}
use Rattle.units.specs.Limits.{cores_limit, tasks_limit, clock_limit}
use Rattle.planning.specs.declared.Plan.{Plan}
use Rattle.task_state.specs.declared.State.{State}
use Rattle.task_state.specs.State.{run_at, no_state}
use Rattle.task_state.specs.Runs.{without_run}
use Rattle.task_state.proofs.Waits.{Waiting, waits_told}
use Rattle.state_rules.proofs.Ended.{without_shaped, without_sound}
use Rattle.core_choice.specs.declared.Best.{Best}
use Rattle.core_choice.specs.Choice.{choice_by}
use Rattle.core_choice.specs.Told.{choice_task}
use Rattle.dispatch.specs.Shape.{Good}
use Rattle.dispatch.specs.Look.{best_of, choice_for, choice_of}
use Rattle.dispatch.proofs.SoundFacts.{sound_facts, waits_in}
use Rattle.dispatch.proofs.Search.{Found, found}
use Rattle.dispatch.proofs.Records.{task_in, task_shaped, task_sound, moved_good, timed_good}
use Rattle.run_lengths.specs.declared.Work.{Work}
use Rattle.run_lengths.specs.Work.{no_work, length_at, without_length}
use Rattle.goings.specs.Going.{ran_by}
use Rattle.goings.proofs.Ran.{ran_long}
use Rattle.day.specs.Desk.{Desk, line_of, state_of, work_of, had_of, run_of, box_of, choice_at, number_of, looked_at, ran_on, ends_on}
use Rattle.day.proofs.Looked.{goes_task, looked_states, looked_works, looked_had, looked_long, looked_at_lem}
use Rattle.day.proofs.Ran.{having, having_none, having_one, ran_is}
use Rattle.day.proofs.Kept.{Kept, released_of, later_kept, without_kept, length_up}

-- a task's oldest unfinished run has had less than its length
pub record Rested (st : State) (wk : Work) (h t : ℕ) : Type 0 where
  pub none : st.live ≡ 0 → h ≡ 0
  pub within : 0 < st.live → h < length_at wk 0
  pub few : wk.ended ≤ t

pub record Stands (pl : Plan) (t : ℕ) (d : Desk) : Type 0 where
  pub good : Good (box_of pl t d)
  pub works : length d.works ≡ tasks_limit
  pub had : length d.had ≡ tasks_limit
  pub going : length d.going ≡ cores_limit
  pub each : (i : ℕ) → i < pl.count → Kept (line_of pl i) (state_of d i) (work_of d i) t
  -- what is no task has had nothing
  pub nobody : (i : ℕ) → pl.count ≤ i → had_of d i ≡ 0

abbrev pub Resting : Plan → ℕ → Desk → Type 0
Resting pl t d = (i : ℕ) → i < pl.count → Rested (state_of d i) (work_of d i) (had_of d i) t

-- the run that has core p, from 0, is that of task i, from 0, and has had its length at most
pub record Busy (pl : Plan) (t : ℕ) (d : Desk) (p i : ℕ) : Type 0 where
  pub task : i < pl.count
  pub live : 0 < (state_of d i).live
  pub there : (run_at (state_of d i) 0).core ≡ suc p
  pub released : released_of (line_of pl i) (state_of d i) 0 ≤ t
  pub most : had_of d i ≤ length_at (work_of d i) 0
  pub few : (work_of d i).ended < t

-- the finishes of t are made on the cores below n
pub record Ending (pl : Plan) (t n : ℕ) (d : Desk) : Type 0 where
  pub stands : Stands pl t d
  pub rested : (i : ℕ) → i < pl.count → ((p : ℕ) → n ≤ p → p < pl.cores → (run_of d p).task ≡ suc i → ⊥) → Rested (state_of d i) (work_of d i) (had_of d i) t
  pub busy : (p i : ℕ) → n ≤ p → p < pl.cores → (run_of d p).task ≡ suc i → Busy pl t d p i

back : (i : ℕ) → suc i - 1 ≡ i
back i = omega arith

-- the task that a choice names
told_task : (b : Best) (due : ℕ) → choice_task (choice_by b due) ≡ b.task
told_task b due =
    by_cases (eqb b.task 0)
    (λ e. rw e (sym (eqb-true b.task 0 e)))
    (λ e. by_cases (eqb b.key 0) (λ f. rw (e, f)) (λ f. by_cases (eqb b.key 1) (λ g. rw (e, f, g)) (λ g. rw (e, f, g))))

module _ (pl : Plan) (t : ℕ) (d : Desk) where
  -- it is the best task
  pub choice_best : (p : ℕ) → choice_at pl t d p ≡ (best_of (box_of pl t d) (suc p) tasks_limit).task
  unfolding choice_at choice_of choice_for
  choice_best p = told_task (best_of (box_of pl t d) (suc p) tasks_limit) _

  -- a task that is chosen waits there
  pub choice_waits : (p j : ℕ) → Good (box_of pl t d) → choice_at pl t d p ≡ suc j → (j < pl.count) × Waiting (line_of pl j) (state_of d j) (suc p) t
  choice_waits p j g e =
      let r = box_of pl t d in
      let f : (best_of r (suc p) tasks_limit).task ≡ suc j = sym (choice_best p) ∙ e in
      let b = best_of r (suc p) tasks_limit in
      let w : Found r (suc p) tasks_limit (suc j) b.key = rw f at (found r (suc p) tasks_limit) in
      (waits_in r (sound_facts r g.sound) j (suc p) w.1.within w.1.waiting, waits_told (line_of pl j) (state_of d j) (suc p) t w.1.waiting)

  module _ (s : Stands pl t d) (rest : Resting pl t d) (m : ℕ) (some : 0 < m) (in_time : t + m ≤ clock_limit)
      (lasts : (p : ℕ) → p < pl.cores → 0 < choice_at pl t d p → had_of d (choice_at pl t d p - 1) + m ≤ length_at (work_of d (choice_at pl t d p - 1)) 0)
      (wide : pl.cores ≤ cores_limit) where
    abbrev there : Desk
    there = looked_at pl t pl.cores d

    abbrev onward : Desk
    onward = ran_on m pl.cores there

    -- each core has its choice
    has_choice : (p : ℕ) → p < pl.cores → (run_of onward p).task ≡ choice_at pl t d p
    unfolding ran_on
    has_choice p l =
        rw (looked_at_lem pl t d pl.cores p l (omega (arith, s.going, wide)))
        (goes_task (run_of d p) (choice_at pl t d p) (number_of d (choice_at pl t d p)) t)

    states_same : onward.states ≡ d.states
    unfolding ran_on
    states_same = looked_states pl t d pl.cores

    works_same : onward.works ≡ d.works
    unfolding ran_on
    works_same = looked_works pl t d pl.cores

    had_is : (i : ℕ) → i < pl.count → had_of onward i ≡ had_of d i + m * having there.going i pl.cores
    unfolding ran_on
    had_is i l =
        let few = task_in (box_of pl t d) s.good i l in
        ran_is there.going m there.had pl.cores i (rw (looked_had pl t d pl.cores) (omega (arith, few, s.had)))
        ∙ rw (looked_had pl t d pl.cores) refl

    long_same : length onward.had ≡ tasks_limit
    unfolding ran_on
    long_same = ran_long there.going m there.had pl.cores ∙ rw (looked_had pl t d pl.cores) s.had

    going_same : length onward.going ≡ cores_limit
    unfolding ran_on
    going_same = looked_long pl t d pl.cores ∙ s.going

    there_same : (q : ℕ) {i : ℕ} → (run_of onward q).task ≡ suc i → (run_of there q).task ≡ suc i
    unfolding ran_on
    there_same q e = e

    same_there : (q : ℕ) {i : ℕ} → (run_of there q).task ≡ suc i → (run_of onward q).task ≡ suc i
    unfolding ran_on
    same_there q e = e

    -- on one core alone
    alone : (p q i : ℕ) → p < pl.cores → q < pl.cores → (run_of onward p).task ≡ suc i → (run_of there q).task ≡ suc i → q ≡ p
    alone p q i l b e z =
        let v = (choice_waits p i s.good (sym (has_choice p l) ∙ e)).1.there in
        let w = (choice_waits q i s.good (sym (has_choice q b) ∙ same_there q z)).1.there in
        omega (arith, sym v ∙ w)

    -- a core's choice waits, and has had m ticks more
    working : (p i : ℕ) → p < pl.cores → (run_of onward p).task ≡ suc i → Busy pl (t + m) onward p i
    working p i l e =
        let c : choice_at pl t d p ≡ suc i = sym (has_choice p l) ∙ e in
        let w = choice_waits p i s.good c in
        let one = having_one there.going i pl.cores p l (there_same p e) (λ q b z. alone p q i l b e z) in
        let h : had_of onward i ≡ had_of d i + m = had_is i w.0 ∙ rw one (omega arith) in
        let last = rw (c, back i) at (lasts p l (omega (arith, c))) in
        record {
          task = w.0;
          live = rw states_same w.1.unfinished;
          there = rw states_same w.1.there;
          released = rw states_same (omega (arith, w.1.released));
          most = rw works_same (omega (arith, h, last));
          few = rw works_same (omega (arith, (rest i w.0).few, some));
        }

    -- no core has what is no task
    nobody_ran : (i : ℕ) → pl.count ≤ i → had_of onward i ≡ 0
    unfolding ran_on
    nobody_ran i over =
        by_cases (ltb i (length there.had))
        (λ e.
        let none = having_none there.going i pl.cores (λ q l z.
        let w = (choice_waits q i s.good (sym (has_choice q l) ∙ same_there q z)).0 in omega (arith, w, over)) in
        ran_is there.going m there.had pl.cores i (ltb-true i (length there.had) e)
        ∙ rw (none, looked_had pl t d pl.cores) (omega (arith, s.nobody i over)))
        (λ e.
        get_or-eq_default (ran_by there.going m there.had pl.cores) 0
        (omega (arith, ltb-false i (length there.had) e, ran_long there.going m there.had pl.cores)))

    -- m ticks on, before the finishes
    pub ending_start : Ending pl (t + m) 0 onward
    ending_start = record {
      stands = record {
        good = rw states_same (timed_good (box_of pl t d) s.good (t + m) in_time);
        works = rw works_same s.works;
        had = long_same;
        going = going_same;
        each = λ i k. rw (states_same, works_same) (later_kept (line_of pl i) (state_of d i) (work_of d i) t (s.each i k) (t + m) (omega arith));
        nobody = nobody_ran;
      };
      rested = λ i k none.
          let r = rest i k in
          let z = having_none there.going i pl.cores (λ q l e. none q (omega arith) l (same_there q e)) in
          let h : had_of onward i ≡ had_of d i = had_is i k ∙ rw z (omega arith) in
          rw (states_same, works_same, h) (record { none = r.none; within = r.within; few = omega (arith, r.few) });
      busy = λ p i from l e. working p i l e;
    }

-- a task is on one core alone
pub ending_apart : (pl : Plan) (t n : ℕ) (d : Desk) → Ending pl t n d → (p q i : ℕ) → n ≤ p → p < pl.cores → n ≤ q → q < pl.cores
    → (run_of d p).task ≡ suc i → (run_of d q).task ≡ suc i → q ≡ p
ending_apart pl t n d e p q i a l b m x y = omega (arith, sym (e.busy p i a l x).there ∙ (e.busy q i b m y).there)

-- core n's run ends
module _ (pl : Plan) (t n : ℕ) (d : Desk) (e : Ending pl t n d) (here : n < pl.cores) (i : ℕ) (on : (run_of d n).task ≡ suc i) where
  abbrev b : Busy pl t d n i
  b = e.busy n i (omega arith) here on

  abbrev small : i < tasks_limit
  small = task_in (box_of pl t d) e.stands.good i b.task

  -- what stands after it
  abbrev after : Desk
  after = ends_on t n d

  states_are : after.states ≡ set d.states i (without_run (state_of d i))
  unfolding ends_on
  states_are = rw (on, back i) refl

  works_are : after.works ≡ set d.works i (without_length (work_of d i))
  unfolding ends_on
  works_are = rw (on, back i) refl

  pub had_are : after.had ≡ set d.had i 0
  unfolding ends_on
  had_are = rw (on, back i) refl

  pub going_are : after.going ≡ d.going
  unfolding ends_on
  going_are = refl

  -- the task itself
  pub state_here : state_of after i ≡ without_run (state_of d i)
  state_here = rw states_are (get_or-set_same d.states i (without_run (state_of d i)) no_state (omega (arith, small, e.stands.good.shaped.states)))

  pub work_here : work_of after i ≡ without_length (work_of d i)
  work_here = rw works_are (get_or-set_same d.works i (without_length (work_of d i)) no_work (omega (arith, small, e.stands.works)))

  had_here : had_of after i ≡ 0
  had_here = rw had_are (get_or-set_same d.had i 0 0 (omega (arith, small, e.stands.had)))

  module _ (j : ℕ) (other : j ≡ i → ⊥) where
    pub state_there : state_of after j ≡ state_of d j
    state_there = rw states_are (get_or-set_other d.states i j (without_run (state_of d i)) no_state other)

    pub work_there : work_of after j ≡ work_of d j
    work_there = rw works_are (get_or-set_other d.works i j (without_length (work_of d i)) no_work other)

    had_there : had_of after j ≡ had_of d j
    had_there = rw had_are (get_or-set_other d.had i j 0 0 other)

  -- its state is sound still
  good_after : Good (box_of pl t after)
  good_after =
      let r = box_of pl t d in
      let g = e.stands.good in
      rw states_are
      (moved_good r g i b.task (without_run (state_of d i)) t (sound_facts r g.sound).clock (without_shaped (state_of d i) (task_shaped r g i b.task))
      (without_sound (line_of pl i) (state_of d i) (task_shaped r g i b.task) (task_sound r g i b.task)))

  kept_after : (j : ℕ) → j < pl.count → Kept (line_of pl j) (state_of after j) (work_of after j) t
  kept_after j l = go (ℕ_discrete j i)
    where
      go : Dec (j ≡ i) → Kept (line_of pl j) (state_of after j) (work_of after j) t
      go (yes q) = rw (q, state_here, work_here) (without_kept (line_of pl i) (state_of d i) (work_of d i) t (e.stands.each i b.task))
      go (no q) = rw (state_there j q, work_there j q) (e.stands.each j l)

  stands_after : Stands pl t after
  stands_after = record {
    good = good_after;
    works = rw works_are (length-set d.works i (without_length (work_of d i)) ∙ e.stands.works);
    had = rw had_are (length-set d.had i 0 ∙ e.stands.had);
    going = rw going_are e.stands.going;
    each = kept_after;
    nobody = λ j l. had_there j (λ z. omega (arith, z, l, b.task)) ∙ e.stands.nobody j l;
  }

  live_less : (without_run (state_of d i)).live ≡ (state_of d i).live - 1
  unfolding without_run
  live_less = refl

  ended_more : (without_length (work_of d i)).ended ≡ (work_of d i).ended + 1
  unfolding without_length
  ended_more = refl

  -- and the next run has had nothing
  rested_here : Rested (state_of after i) (work_of after i) (had_of after i) t
  rested_here =
      let c = e.stands.each i b.task in
      rw (state_here, work_here, had_here) (record {
        none = λ z. refl;
        within = λ l.
            rw (length_up (line_of pl i) (state_of d i) (work_of d i) t c 0) (omega (arith, c.some 1 (omega (arith, l, live_less))));
        few = omega (arith, ended_more, b.few);
      })

  rested_after : (j : ℕ) → j < pl.count → ((p : ℕ) → suc n ≤ p → p < pl.cores → (run_of after p).task ≡ suc j → ⊥)
      → Rested (state_of after j) (work_of after j) (had_of after j) t
  rested_after j l none = go (ℕ_discrete j i)
    where
      go : Dec (j ≡ i) → Rested (state_of after j) (work_of after j) (had_of after j) t
      go (yes q) = rw q rested_here
      go (no q) = rw (state_there j q, work_there j q, had_there j q) (e.rested j l (λ p a k z. old p a k z (ℕ_discrete p n)))
        where
          old : (p : ℕ) → n ≤ p → p < pl.cores → (run_of d p).task ≡ suc j → Dec (p ≡ n) → ⊥
          old p a k z (yes w) = q (omega (arith, sym z ∙ ap (λ (v : ℕ). (run_of d v).task) w ∙ on))
          old p a k z (no w) = none p (omega (arith, a, w)) k (rw going_are z)

  pub ended_next : Ending pl t (suc n) after
  ended_next = record {
    stands = stands_after;
    rested = rested_after;
    busy = λ p j a l z. busy_after p j a l (rw going_are at z);
  }
    where
      busy_after : (p j : ℕ) → suc n ≤ p → p < pl.cores → (run_of d p).task ≡ suc j → Busy pl t after p j
      busy_after p j a l z =
          let o = e.busy p j (omega (arith, a)) l z in
          let q : j ≡ i → ⊥ = λ w.
          let same = ending_apart pl t n d e n p i (omega arith) here (omega (arith, a)) l on (z ∙ ap suc w) in omega (arith, a, same) in
          record {
            task = o.task;
            live = rw (state_there j q) o.live;
            there = rw (state_there j q) o.there;
            released = rw (state_there j q) o.released;
            most = rw (had_there j q, work_there j q) o.most;
            few = rw (work_there j q) o.few;
          }
