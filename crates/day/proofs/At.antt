-- The desk at each instant stands as it should, and the day is that desk.
use Prim.Native.Nat.{ℕ, zero, suc, ◌+◌, ◌-◌, ◌≤◌, ◌<◌}
use mathlib.Core.Path.{◌≡◌, refl, sym, ap, ◌∙◌, subst}
use mathlib.Core.Bool.{true, false}
use mathlib.Core.List.{List}
use native.Mathlib.Decide.{ℕ_discrete}
use native.Mathlib.Omega.{arith}
use lib.Dec.{ltb, eqb}
use lib.ListN.{get_or, set, length-set, get_or-replicate, get_or-eq_default}
use lib.Seq.{get_or-set_same, get_or-set_other}
use borrow.Author.Tests.{eqb-false, ltb-true, ltb-false, lt-ltb, ne_eqb}
use Rattle.lists.specs.Lists.{zeros}
use Rattle.lists.proofs.Tests.{by_cases}
use Rattle.units.specs.Limits.{cores_limit, tasks_limit, clock_limit, period_limit, runs_limit}
use Rattle.planning.specs.declared.Plan.{Plan}
use Rattle.planning.specs.Shape.{PlanShaped}
use Rattle.soundness.specs.Plan.{plan_sound}
use Rattle.soundness.proofs.Lined.{lined}
use Rattle.soundness.proofs.Facts.{cores_few}
use Rattle.task_state.specs.State.{fresh_state, no_state}
use Rattle.task_state.specs.Due.{release_at}
use Rattle.task_state.specs.Runs.{with_run}
use Rattle.task_state.proofs.Passed.{release_in, has_room}
use Rattle.state_rules.proofs.Facts.{facts, turnable}
use Rattle.state_rules.proofs.Taken.{with_shaped, with_sound}
use Rattle.dispatch.specs.Shape.{Good}
use Rattle.dispatch.specs.Record.{record_of}
use Rattle.dispatch.proofs.Fresh.{fresh_good}
use Rattle.dispatch.proofs.SoundFacts.{sound_facts}
use Rattle.dispatch.proofs.Records.{task_in, task_lined, task_wide, task_shaped, task_sound, moved_good}
use Rattle.arrivals.specs.Arrivals.{arrivals_in, arrival_time, arrival_task, arrival_length}
use Rattle.arrivals.specs.Fine as Arrivals
use Rattle.run_lengths.specs.Work.{fresh_work, no_work, length_at, with_length}
use Rattle.day.specs.Desk.{Desk, line_of, state_of, work_of, had_of, run_of, box_of, arrival_no, takes, arrived_by, choice_at, looked_at, ran_on, done_of, ends, ended_by, leap, fresh_desk, desk_at}
use Rattle.day.proofs.Kept.{Kept, fresh_kept, with_kept}
use Rattle.day.proofs.Stands.{Rested, Stands, Resting, Busy, Ending, ending_start, ended_next, choice_waits}

-- core n's run ends, or it is not done
pub ending_next : (pl : Plan) (t n : ℕ) (d : Desk) → n < pl.cores → Ending pl t n d → Ending pl t (suc n) (ends t n d)
ending_next pl t n d l e = go (run_of d n).task refl
  where
    -- the others stay as they are
    same : ((run_of d n).task ≡ 0) → Ending pl t (suc n) d
    same z = record {
      stands = e.stands;
      rested = λ i k none. e.rested i k (λ p a m w. at p a m w (ℕ_discrete p n) none);
      busy = λ p i a m w. e.busy p i (omega (arith, a)) m w;
    }
      where
        at : {i : ℕ} (p : ℕ) → n ≤ p → p < pl.cores → (run_of d p).task ≡ suc i → Dec (p ≡ n)
            → ((q : ℕ) → suc n ≤ q → q < pl.cores → (run_of d q).task ≡ suc i → ⊥) → ⊥
        at p a m w (yes q) none = omega (arith, sym w ∙ ap (λ (v : ℕ). (run_of d v).task) q ∙ z)
        at p a m w (no q) none = none p (omega (arith, a, q)) m w

    -- it has had less than its length
    going_on : (i : ℕ) → (run_of d n).task ≡ suc i → done_of d (run_of d n).task ≡ false → Ending pl t (suc n) d
    going_on i on undone = record {
      stands = e.stands;
      rested = λ j k none. at j k none (ℕ_discrete j i);
      busy = λ p j a m w. e.busy p j (omega (arith, a)) m w;
    }
      where
        b : Busy pl t d n i
        b = e.busy n i (omega arith) l on

        less : had_of d i < length_at (work_of d i) 0
        less =
            let back : suc i - 1 ≡ i = omega arith in
            let f : eqb (had_of d i) (length_at (work_of d i) 0) ≡ false = rw (on, back, lt-ltb 0 (suc i) (omega arith)) at undone in
            omega (arith, eqb-false (had_of d i) (length_at (work_of d i) 0) f, b.most)

        at : (j : ℕ) → j < pl.count → ((p : ℕ) → suc n ≤ p → p < pl.cores → (run_of d p).task ≡ suc j → ⊥) → Dec (j ≡ i)
            → Rested (state_of d j) (work_of d j) (had_of d j) t
        at j k none (yes q) = rw q (record { none = λ z. absurd (omega (arith, z, b.live)); within = λ z. less; few = omega (arith, b.few) })
        at j k none (no q) = e.rested j k (λ p a m w. by p a m w (ℕ_discrete p n))
          where
            by : (p : ℕ) → n ≤ p → p < pl.cores → (run_of d p).task ≡ suc j → Dec (p ≡ n) → ⊥
            by p a m w (yes v) = q (omega (arith, sym w ∙ ap (λ (u : ℕ). (run_of d u).task) v ∙ on))
            by p a m w (no v) = none p (omega (arith, a, v)) m w

    go : (c : ℕ) → (run_of d n).task ≡ c → Ending pl t (suc n) (ends t n d)
    go zero z = rw z (same z)
    go (suc i) on =
        by_cases (done_of d (run_of d n).task)
        (λ y. rw y (ended_next pl t n d e l i on))
        (λ y. rw y (going_on i on y))

-- so of all cores
pub ending_all : (pl : Plan) (t n : ℕ) (d : Desk) → n ≤ pl.cores → Ending pl t 0 d → Ending pl t n (ended_by t n d)
ending_all pl t zero d l e = e
ending_all pl t (suc n) d l e = ending_next pl t n (ended_by t n d) (omega (arith, l)) (ending_all pl t n d (omega (arith, l)) e)

-- and then every task rests
pub ending_rests : (pl : Plan) (t : ℕ) (d : Desk) → Ending pl t pl.cores d → Resting pl t d
ending_rests pl t d e i l = e.rested i l (λ p a m w. omega (arith, a, m))

-- arrival k is taken, or refused
module _ (pl : Plan) (xs : List ℕ) (t k : ℕ) (d : Desk) (s : Stands pl t d) (rest : Resting pl t d)
    (from : 1 ≤ arrival_task xs k) (to : arrival_task xs k ≤ pl.count) (some : 1 ≤ arrival_length xs k) (fits : arrival_length xs k ≤ period_limit) where
  abbrev i : ℕ
  i = arrival_task xs k - 1

  abbrev here : i < pl.count
  here = omega (arith, from, to)

  abbrev small : i < tasks_limit
  small = task_in (box_of pl t d) s.good i here

  abbrev after : Desk
  after = takes pl xs t k d

  module _ (ok : arrival_no pl xs t k d ≡ 0) where
    states_are : after.states ≡ set d.states i (with_run (line_of pl i) (state_of d i) (release_at (line_of pl i) (state_of d i) t))
    unfolding takes
    states_are = rw ok refl

    works_are : after.works ≡ set d.works i (with_length (work_of d i) (state_of d i).live (arrival_length xs k))
    unfolding takes
    works_are = rw ok refl

    room : (state_of d i).live < runs_limit
    room = let r = box_of pl t d in has_room (line_of pl i) (state_of d i) t ok (facts (line_of pl i) (state_of d i) (task_sound r s.good i here)).few

    good_after : Good (box_of pl t after)
    good_after =
        let r = box_of pl t d in
        let g = s.good in
        let ln = line_of pl i in
        let st = state_of d i in
        let x = release_at ln st t in
        let l = task_lined r g i here in
        let wide = task_wide r g i here in
        let sh = task_shaped r g i here in
        let sd = task_sound r g i here in
        let f = facts ln st sd in
        let turn = turnable ln st f l.small l.shares in
        rw states_are
        (moved_good r g i here (with_run ln st x) t (sound_facts r g.sound).clock (with_shaped ln st x wide sh turn)
        (with_sound ln st x wide sh turn room (release_in ln st t ok) sd))

    pub state_here : state_of after i ≡ with_run (line_of pl i) (state_of d i) (release_at (line_of pl i) (state_of d i) t)
    state_here = rw states_are (get_or-set_same d.states i _ no_state (omega (arith, small, s.good.shaped.states)))

    pub work_here : work_of after i ≡ with_length (work_of d i) (state_of d i).live (arrival_length xs k)
    work_here = rw works_are (get_or-set_same d.works i _ no_work (omega (arith, small, s.works)))

    pub had_same : after.had ≡ d.had
    unfolding takes
    had_same = refl

    pub going_same : after.going ≡ d.going
    unfolding takes
    going_same = refl

    pub state_there : (j : ℕ) → (j ≡ i → ⊥) → state_of after j ≡ state_of d j
    state_there j q = rw states_are (get_or-set_other d.states i j _ no_state q)

    pub work_there : (j : ℕ) → (j ≡ i → ⊥) → work_of after j ≡ work_of d j
    work_there j q = rw works_are (get_or-set_other d.works i j _ no_work q)

    kept_after : (j : ℕ) → j < pl.count → Kept (line_of pl j) (state_of after j) (work_of after j) t
    kept_after j l = go (ℕ_discrete j i)
      where
        go : Dec (j ≡ i) → Kept (line_of pl j) (state_of after j) (work_of after j) t
        go (yes q) =
            rw (q, state_here, work_here)
            (with_kept (line_of pl i) (state_of d i) (work_of d i) t (s.each i here) (task_shaped (box_of pl t d) s.good i here) room
            (arrival_length xs k) some fits)
        go (no q) = rw (state_there j q, work_there j q) (s.each j l)

    taken_stands : Stands pl t after
    taken_stands = record {
      good = good_after;
      works = rw works_are (length-set d.works i _ ∙ s.works);
      had = rw had_same s.had;
      going = rw going_same s.going;
      each = kept_after;
      nobody = λ j l. rw had_same (s.nobody j l);
    }

    live_more : (with_run (line_of pl i) (state_of d i) (release_at (line_of pl i) (state_of d i) t)).live ≡ (state_of d i).live + 1
    unfolding with_run
    live_more = refl

    ended_same : (with_length (work_of d i) (state_of d i).live (arrival_length xs k)).ended ≡ (work_of d i).ended
    unfolding with_length
    ended_same = refl

    -- the oldest run's length is another where there was none
    oldest : had_of d i < length_at (with_length (work_of d i) (state_of d i).live (arrival_length xs k)) 0
    unfolding with_length
    oldest = go (ℕ_discrete (state_of d i).live 0)
      where
        go : Dec ((state_of d i).live ≡ 0) → had_of d i < get_or (set (work_of d i).lengths (state_of d i).live (arrival_length xs k)) 0 0
        go (yes z) =
            rw (z, (rest i here).none z, get_or-set_same (work_of d i).lengths 0 (arrival_length xs k) 0 (omega (arith, (s.each i here).long))) some
        go (no z) =
            rw (get_or-set_other (work_of d i).lengths (state_of d i).live 0 (arrival_length xs k) 0 (λ e. z (sym e)))
            ((rest i here).within (omega (arith, z)))

    taken_rests : Resting pl t after
    taken_rests j l = go (ℕ_discrete j i)
      where
        go : Dec (j ≡ i) → Rested (state_of after j) (work_of after j) (had_of after j) t
        go (yes q) =
            rw (q, state_here, work_here, had_same) (record {
              none = λ z. absurd (omega (arith, z, live_more));
              within = λ z. oldest;
              few = omega (arith, ended_same, (rest i here).few);
            })
        go (no q) = rw (state_there j q, work_there j q, had_same) (rest j l)

  -- a refused one changes neither states nor lengths
  module _ (refused : arrival_no pl xs t k d ≡ 0 → ⊥) where
    pub same_states : after.states ≡ d.states
    unfolding takes
    same_states = rw (ne_eqb (arrival_no pl xs t k d) 0 refused) refl

    pub same_works : after.works ≡ d.works
    unfolding takes
    same_works = rw (ne_eqb (arrival_no pl xs t k d) 0 refused) refl

    pub same_had : after.had ≡ d.had
    unfolding takes
    same_had = refl

    pub same_going : after.going ≡ d.going
    unfolding takes
    same_going = refl

    refused_stands : Stands pl t after
    refused_stands = record {
      good = rw same_states s.good;
      works = rw same_works s.works;
      had = rw same_had s.had;
      going = rw same_going s.going;
      each = λ j l. rw (same_states, same_works) (s.each j l);
      nobody = λ j l. rw same_had (s.nobody j l);
    }

    refused_rests : Resting pl t after
    refused_rests j l = rw (same_states, same_works, same_had) (rest j l)

  -- so it stands either way
  pub took_stands : Stands pl t after × Resting pl t after
  took_stands = go (ℕ_discrete (arrival_no pl xs t k d) 0)
    where
      go : Dec (arrival_no pl xs t k d ≡ 0) → Stands pl t after × Resting pl t after
      go (yes e) = (taken_stands e, taken_rests e)
      go (no e) = (refused_stands e, refused_rests e)

-- what a rehearsal asks: a sound plan, and arrivals that pass their tests
pub record Fine (pl : Plan) (xs : List ℕ) : Type 0 where
  pub shaped : PlanShaped pl
  pub sound : plan_sound pl ≡ true
  pub from : (k : ℕ) → k < arrivals_in xs → 1 ≤ arrival_task xs k
  pub to : (k : ℕ) → k < arrivals_in xs → arrival_task xs k ≤ pl.count
  pub some : (k : ℕ) → k < arrivals_in xs → 1 ≤ arrival_length xs k
  pub fits : (k : ℕ) → k < arrivals_in xs → arrival_length xs k ≤ period_limit

-- arrivals of which none is refused are such
pub fine_of : {pl : Plan} {xs : List ℕ} → PlanShaped pl → plan_sound pl ≡ true → Arrivals.Fine pl xs (arrivals_in xs) → Fine pl xs
fine_of {pl} {xs} shaped sound f = record {
  shaped = shaped;
  sound = sound;
  from = f.task_from;
  to = f.task_to;
  some = f.some;
  fits = λ k l.
      let n = lined pl shaped.lines sound (arrival_task xs k - 1) (omega (arith, f.task_from k l, f.task_to k l)) in
      omega (arith, f.fits k l, n.cost, n.period);
}

module _ (pl : Plan) (xs : List ℕ) (f : Fine pl xs) where
  -- the first n arrivals
  pub arrived_stands : (t n : ℕ) (d : Desk) → n ≤ arrivals_in xs → Stands pl t d → Resting pl t d
      → Stands pl t (arrived_by pl xs t n d) × Resting pl t (arrived_by pl xs t n d)
  arrived_stands t zero d l s r = (s, r)
  arrived_stands t (suc n) d l s r =
      let b = arrived_stands t n d (omega (arith, l)) s r in
      by_cases (eqb (arrival_time xs n) t)
      (λ e. rw e (took_stands pl xs t n (arrived_by pl xs t n d) b.0 b.1 (f.from n l) (f.to n l) (f.some n l) (f.fits n l)))
      (λ e. rw e b)

  -- no more cores than sixteen
  pub cores_wide : pl.cores ≤ cores_limit
  cores_wide = cores_few pl f.sound

  -- m ticks on, where each choice needs as many
  pub leaped : (t m : ℕ) (d : Desk) → Stands pl t d → Resting pl t d → 0 < m → t + m ≤ clock_limit
      → ((p : ℕ) → p < pl.cores → 0 < choice_at pl t d p → had_of d (choice_at pl t d p - 1) + m ≤ length_at (work_of d (choice_at pl t d p - 1)) 0)
      → Stands pl (t + m) (leap pl t m d) × Resting pl (t + m) (leap pl t m d)
  leaped t m d s r some l lasts =
      let e = ending_all pl (t + m) pl.cores (ran_on m pl.cores (looked_at pl t pl.cores d)) (omega arith)
      (ending_start pl t d s r m some l lasts cores_wide) in
      (e.stands, ending_rests pl (t + m) (leap pl t m d) e)

  -- each needs one tick
  pub lasts_one : (t : ℕ) (d : Desk) → Stands pl t d → Resting pl t d → (p : ℕ) → p < pl.cores → 0 < choice_at pl t d p
      → had_of d (choice_at pl t d p - 1) + 1 ≤ length_at (work_of d (choice_at pl t d p - 1)) 0
  lasts_one t d s r p l some =
      let j = choice_at pl t d p - 1 in
      let w = choice_waits pl t d p j s.good (omega (arith, some)) in
      omega (arith, (r j w.0).within w.1.unfinished)

  -- a zero everywhere
  zeros_at : (i : ℕ) → get_or (zeros tasks_limit) i 0 ≡ 0
  zeros_at i =
      by_cases (ltb i tasks_limit)
      (λ e. get_or-replicate {A = ℕ} tasks_limit i 0 0 (ltb-true i tasks_limit e))
      (λ e. get_or-eq_default (zeros tasks_limit) 0 {n = i} (ltb-false i tasks_limit e))

  -- nothing had
  rest_fresh : Rested fresh_state fresh_work 0 0
  unfolding fresh_state fresh_work
  rest_fresh = record { none = λ z. refl; within = λ z. absurd (omega arith); few = omega arith }

  -- at the start
  fresh_stands : Stands pl 0 fresh_desk × Resting pl 0 fresh_desk
  unfolding fresh_desk record_of
  fresh_stands = (
    record {
      good = fresh_good pl f.shaped f.sound;
      works = refl;
      had = refl;
      going = refl;
      each = λ i l. let h = small i l in rw (get_or-replicate tasks_limit i fresh_state no_state h, get_or-replicate tasks_limit i fresh_work no_work h)
          (fresh_kept (line_of pl i) 0);
      nobody = λ i l. zeros_at i;
    },
    λ i l. let h = small i l in
        rw (
          get_or-replicate tasks_limit i fresh_state no_state h,
          get_or-replicate tasks_limit i fresh_work no_work h,
          get_or-replicate {A = ℕ} tasks_limit i 0 0 h,
        )
        rest_fresh,
  )
    where
      small : (i : ℕ) → i < pl.count → i < tasks_limit
      small i l = task_in (record_of pl) (fresh_good pl f.shaped f.sound) i l

  -- at each instant
  pub stands_at : (t : ℕ) → t ≤ clock_limit → Stands pl t (desk_at pl xs t) × Resting pl t (desk_at pl xs t)
  unfolding desk_at
  stands_at zero l = fresh_stands
  stands_at (suc t) l =
      let a = stands_at t (omega (arith, l)) in
      let b = arrived_stands t (arrivals_in xs) (desk_at pl xs t) (omega arith) a.0 a.1 in
      let d = arrived_by pl xs t (arrivals_in xs) (desk_at pl xs t) in
      let e : t + 1 ≡ suc t = omega arith in
      subst (λ (u : ℕ). Stands pl u (leap pl t 1 d) × Resting pl u (leap pl t 1 d)) e
      (leaped t 1 d b.0 b.1 (omega arith) (omega (arith, l)) (lasts_one t d b.0 b.1))
