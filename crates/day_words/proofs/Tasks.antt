-- Each task at each instant, and at each step of a tick.
use Prim.Native.Nat.{ℕ, zero, suc, ◌+◌, ◌-◌, ◌≤◌, ◌<◌}
use mathlib.Core.Path.{◌≡◌, refl, sym, ap, ◌∙◌}
use mathlib.Core.Bool.{true, false, ◌&&◌}
use mathlib.Core.List.{List, [], ◌∷◌, ◌++◌, append-nil, append_assoc}
use native.Mathlib.Decide.{ℕ_discrete}
use native.Mathlib.Omega.{arith}
use lib.Dec.{eqb}
use lib.ListN.{get_or-replicate}
use borrow.Author.Tests.{eqb-true, eq-eqb, ne_eqb}
use Rattle.lists.proofs.Tests.{by_cases, and_true}
use Rattle.units.specs.Limits.{runs_limit, tasks_limit, clock_limit}
use Rattle.planning.specs.declared.Plan.{Plan}
use Rattle.task_state.specs.State.{run_at, fresh_state, no_state}
use Rattle.task_state.specs.Due.{release_at}
use Rattle.task_state.proofs.Passed.{has_room}
use Rattle.task_state.proofs.Waits.{Waiting}
use Rattle.state_rules.proofs.Facts.{facts}
use Rattle.dispatch.proofs.Records.{task_in, task_shaped, task_sound}
use Rattle.arrivals.specs.Arrivals.{arrivals_in, arrival_time, arrival_task}
use Rattle.run_lengths.specs.Work.{fresh_work, no_work}
use Rattle.goings.specs.declared.Going.{Going}
use Rattle.goings.specs.Going.{same}
use Rattle.day.specs.Desk.{Desk, line_of, state_of, work_of, had_of, run_of, box_of, arrival_no, choice_at, number_of, ran_on, fresh_desk, desk_at}
use Rattle.day.proofs.Looked.{looked_states, looked_works, looked_had}
use Rattle.day.proofs.Ran.{having, having_none, having_one, ran_is}
use Rattle.day.proofs.Stands.{Stands, choice_waits, ending_apart}
use Rattle.day.proofs.At.{Fine, stands_at}
use Rattle.day_words.specs.Words.{arrived_to, has_in, ticks_of, accepted, taken_in, taken_before}
use Rattle.day_words.proofs.Model.{came_to, came, saw_to, ran_in, end_to, desk_next, came_stands, ending_to, is_came, has_is}
use Rattle.day_words.proofs.Said.{ended_going}
use Rattle.day_words.proofs.Refusals.{refusal_is}
use Rattle.day_words.proofs.Choices.{has_task, has_run}
use Rattle.day_words.proofs.Steps.{is_new, Arrival, more, stays, arrived_had, arrival, Finish, one, finish_task}
use Rattle.day_words.proofs.Told.{Told, told_fresh, told_came, told_ended}

module _ (pl : Plan) (xs : List ℕ) (f : Fine pl xs) where
  -- an arrival's acceptance is the model's
  pub accepted_is : (t k : ℕ) → t < clock_limit → k < arrivals_in xs → arrival_time xs k ≡ t → accepted pl xs k
      ≡ eqb (arrival_no pl xs t k (came_to pl xs t k)) 0
  unfolding accepted
  accepted_is t k l h e =
      let s = is_came pl xs f t l k (omega (arith, h)) in
      rw (e, refusal_is pl t (omega (arith, l)) (arrived_to pl xs t k) (came_to pl xs t k) s xs k (f.from k h) (f.to k h)) refl

  new_is : (t k i : ℕ) → t < clock_limit → k < arrivals_in xs
      → (eqb (arrival_time xs k) t && eqb (arrival_task xs k) (suc i) && accepted pl xs k) ≡ is_new pl xs t k (came_to pl xs t k) i
  new_is t k i l h =
      by_cases (eqb (arrival_time xs k) t)
      (λ e. rw (accepted_is t k l h (eqb-true (arrival_time xs k) t e)) refl)
      (λ e. rw e refl)

  -- task i of a desk, with its accepted arrivals
  abbrev pub TaskTold : ℕ → List ℕ → Desk → ℕ → Type 0
  TaskTold u ks d i = Told pl xs u i ks (state_of d i) (work_of d i) (had_of d i)

  -- at the start
  told_start : (i : ℕ) → i < pl.count → TaskTold 0 [] (desk_at pl xs 0) i
  unfolding desk_at fresh_desk
  told_start i h =
      let small = task_in (box_of pl 0 (desk_at pl xs 0)) (stands_at pl xs f 0 (omega arith)).0.good i h in
      let a = get_or-replicate tasks_limit i fresh_state no_state small in
      let b = get_or-replicate tasks_limit i fresh_work no_work small in
      rw (a, b, get_or-replicate {A = ℕ} tasks_limit i 0 0 small)
      (told_fresh pl xs i)

  module _ (t : ℕ) (l : t < clock_limit) (i : ℕ) (here : i < pl.count) where
    -- arrivals
    pub told_arrived : (n : ℕ) → n ≤ arrivals_in xs → TaskTold t (taken_before pl xs (suc i) t) (desk_at pl xs t) i
        → TaskTold t (taken_before pl xs (suc i) t ++ taken_in pl xs (suc i) t n) (came_to pl xs t n) i
    told_arrived zero h s = rw (append-nil (taken_before pl xs (suc i) t)) s
    told_arrived (suc n) h s =
        let b = came_stands pl xs f t l n (omega (arith, h)) in
        let d = came_to pl xs t n in
        go (told_arrived n (omega (arith, h)) s) b.0 (λ z. (b.1 i here).none z) (arrival pl xs t n d b.0 (f.from n h) i here)
      where
        ks : List ℕ
        ks = taken_before pl xs (suc i) t

        js : List ℕ
        js = taken_in pl xs (suc i) t n

        d : Desk
        d = came_to pl xs t n

        had_same : had_of (came_to pl xs t (suc n)) i ≡ had_of d i
        had_same = rw (arrived_had pl xs t (suc n) (desk_at pl xs t), arrived_had pl xs t n (desk_at pl xs t)) refl

        go : TaskTold t (ks ++ js) d i → Stands pl t d → ((state_of d i).live ≡ 0 → had_of d i ≡ 0) → Arrival pl xs t n d i
            → TaskTold t (ks ++ taken_in pl xs (suc i) t (suc n)) (came_to pl xs t (suc n)) i
        go r st rest (more ok its e a b) =
            rw (new_is t n i l h, e, ← append_assoc ks js (n ∷ []), had_same, a, b)
            (told_came pl xs t i (ks ++ js) (state_of d i) (work_of d i) (had_of d i) r (line_of pl i) (release_at (line_of pl i) (state_of d i) t) n
            (task_shaped (box_of pl t d) st.good i here) (st.each i here).long room rest)
          where
            room : (state_of d i).live < runs_limit
            room =
                let back : suc i - 1 ≡ i = omega arith in
                has_room (line_of pl i) (state_of d i) t (rw (its, back) at ok)
                (facts (line_of pl i) (state_of d i) (task_sound (box_of pl t d) st.good i here)).few
        go r st rest (stays e a b) = rw (new_is t n i l h, e, append-nil js, had_same, a, b) r

    -- a core that has a run of task i has its oldest, which stands there
    has_oldest : (q : ℕ) → q < pl.cores → (has_in pl xs t q).task ≡ suc i → (has_in pl xs t q).run ≡ (work_of (came pl xs t) i).ended + 1
    has_oldest q h e =
        let d = came pl xs t in
        let back : suc i - 1 ≡ i = omega arith in
        let c : choice_at pl t d q ≡ suc i = sym (has_task pl xs f t q l h) ∙ e in
        let z = ne_eqb (suc i) 0 (λ w. omega (arith, w)) in
        let n : number_of d (suc i) ≡ (work_of d i).ended + 1 = rw (z, back) refl in
        has_run pl xs f t q l h ∙ ap (number_of d) c ∙ n

    has_waits : (q : ℕ) → q < pl.cores → (has_in pl xs t q).task ≡ suc i → Waiting (line_of pl i) (state_of (came pl xs t) i) (suc q) t
    has_waits q h e =
        (choice_waits pl t (came pl xs t) q i (came_stands pl xs f t l (arrivals_in xs) (omega arith)).0.good (sym (has_task pl xs f t q l h) ∙ e)).1

    -- the ticks of a run
    same_not : (q m : ℕ) → q < pl.cores → ((has_in pl xs t q).task ≡ suc i → m ≡ (work_of (came pl xs t) i).ended + 1 → ⊥)
        → same (has_in pl xs t q) (suc i) m ≡ false
    same_not q m h off = by_cases (eqb (has_in pl xs t q).task (suc i)) on (λ e. rw e refl)
      where
        on : eqb (has_in pl xs t q).task (suc i) ≡ true → same (has_in pl xs t q) (suc i) m ≡ false
        on e =
            let a = eqb-true (has_in pl xs t q).task (suc i) e in
            rw (e, ne_eqb (has_in pl xs t q).run m (λ z. off a (sym z ∙ has_oldest q h a))) refl

    pub same_on : (q m : ℕ) → q < pl.cores → (has_in pl xs t q).task ≡ suc i → m ≡ (work_of (came pl xs t) i).ended + 1
        → same (has_in pl xs t q) (suc i) m ≡ true
    same_on q m h a e =
        and_true (eqb (has_in pl xs t q).task (suc i)) (eqb (has_in pl xs t q).run m) (eq-eqb (has_in pl xs t q).task (suc i) a)
        (eq-eqb (has_in pl xs t q).run m (has_oldest q h a ∙ sym e))

    -- and those that it has had
    had_ran : had_of (ran_in pl xs t) i ≡ had_of (came pl xs t) i + having (saw_to pl xs t pl.cores).going i pl.cores
    unfolding ran_on
    had_ran =
        let d = came pl xs t in
        let e = saw_to pl xs t pl.cores in
        let s = (came_stands pl xs f t l (arrivals_in xs) (omega arith)).0 in
        let few = task_in (box_of pl t d) s.good i here in
        let same_had = looked_had pl t d pl.cores in
        let r = ran_is e.going 1 e.had pl.cores i (rw same_had (omega (arith, few, s.had))) in
        r ∙ rw same_had (omega arith)

    ran_states : state_of (ran_in pl xs t) i ≡ state_of (came pl xs t) i
    unfolding ran_on
    ran_states = rw (looked_states pl t (came pl xs t) pl.cores) refl

    pub ran_works : work_of (ran_in pl xs t) i ≡ work_of (came pl xs t) i
    unfolding ran_on
    ran_works = rw (looked_works pl t (came pl xs t) pl.cores) refl

    -- a tick is run
    pub told_ran : (ks : List ℕ) → TaskTold t ks (came pl xs t) i → TaskTold (suc t) ks (ran_in pl xs t) i
    told_ran ks s = rw (ran_states, ran_works) (record {
      all = s.all;
      each = s.each;
      ahead = λ q m h b. rw (same_not q m h (λ a e. omega (arith, e, b))) (omega (arith, s.ahead q m h b));
      none = λ z q h.
          rw (same_not q ((work_of (came pl xs t) i).ended + 1) h (λ a e. omega (arith, z, (has_waits q h a).unfinished))) (omega (arith, s.none z q h));
      oldest = λ some q h c. oldest q h c (s.oldest some q h c) (ℕ_discrete (has_in pl xs t q).task (suc i));
    })
      where
        seen : (q : ℕ) → (run_of (saw_to pl xs t pl.cores) q).task ≡ (has_in pl xs t q).task
        seen q = ap (λ (g : Going). g.task) (sym (has_is pl xs f t l q))

        there : (q r : ℕ) → q < pl.cores → (run_at (state_of (came pl xs t) i) 0).core ≡ suc q → r < pl.cores
            → (run_of (saw_to pl xs t pl.cores) r).task ≡ suc i → r ≡ q
        there q r h c b z = omega (arith, sym (has_waits r b (sym (seen r) ∙ z)).there ∙ c)

        oldest : (q : ℕ) → q < pl.cores → (run_at (state_of (came pl xs t) i) 0).core ≡ suc q
            → ticks_of pl xs q (suc i) ((work_of (came pl xs t) i).ended + 1) t ≡ had_of (came pl xs t) i → Dec ((has_in pl xs t q).task ≡ suc i)
            → ticks_of pl xs q (suc i) ((work_of (came pl xs t) i).ended + 1) (suc t) ≡ had_of (ran_in pl xs t) i
        oldest q h c r (yes a) =
            let g = having_one (saw_to pl xs t pl.cores).going i pl.cores q h (seen q ∙ a) (λ k b z. there q k h c b z) in
            let v : had_of (ran_in pl xs t) i ≡ had_of (came pl xs t) i + 1 = had_ran ∙ rw g refl in
            rw (v, same_on q ((work_of (came pl xs t) i).ended + 1) h a refl) (omega (arith, r))
        oldest q h c r (no a) =
            let g = having_none (saw_to pl xs t pl.cores).going i pl.cores
            (λ k b z. a (ap (λ (v : ℕ). (has_in pl xs t v).task) (sym (there q k h c b z)) ∙ sym (seen k) ∙ z)) in
            let v : had_of (ran_in pl xs t) i ≡ had_of (came pl xs t) i = had_ran ∙ rw g (omega arith) in
            rw (v, same_not q ((work_of (came pl xs t) i).ended + 1) h (λ z e. a z)) (omega (arith, r))

    -- finishes
    pub told_ends : (ks : List ℕ) (n : ℕ) → n ≤ pl.cores → TaskTold (suc t) ks (ran_in pl xs t) i → TaskTold (suc t) ks (end_to pl xs t n) i
    told_ends ks zero h s = s
    told_ends ks (suc n) h s =
        let d = end_to pl xs t n in
        let e = ending_to pl xs f t l n (omega (arith, h)) in
        go (told_ends ks n (omega (arith, h)) s) (λ on. (e.busy n i (omega arith) h on).live) (finish_task pl (suc t) n d e.stands i here)
      where
        go : let d = end_to pl xs t n in TaskTold (suc t) ks d i → ((run_of d n).task ≡ suc i → 0 < (state_of d i).live) → Finish (suc t) n d i
            → TaskTold (suc t) ks (end_to pl xs t (suc n)) i
        go r live (one on y e a b c) =
            let d = end_to pl xs t n in
            rw (a, b, c) (told_ended pl xs (suc t) i ks (state_of d i) (work_of d i) (had_of d i) r (live on))
        go r live (stays off a b c) = rw (a, b, c) r

    -- each core has its run still
    pub runs_are : (n p : ℕ) → run_of (end_to pl xs t n) p ≡ has_in pl xs t p
    unfolding ran_on
    runs_are n p = rw (ended_going (suc t) n (ran_in pl xs t)) (sym (has_is pl xs f t l p))

    -- where its finish is ahead, that is its task's oldest
    pub numbered : (n p : ℕ) → n ≤ p → p < pl.cores → (has_in pl xs t p).task ≡ suc i → (has_in pl xs t p).run ≡ (work_of (end_to pl xs t n) i).ended + 1
    numbered zero p a h on = has_oldest p h on ∙ rw ran_works refl
    numbered (suc n) p a h on =
        let d = end_to pl xs t n in
        let e = ending_to pl xs f t l n (omega (arith, a, h)) in
        let on_p : (run_of d p).task ≡ suc i = rw (runs_are n p) on in
        go (numbered n p (omega (arith, a)) h on)
        (λ on-n. omega (arith, a, ending_apart pl (suc t) n d e n p i (omega arith) (omega (arith, a, h)) (omega (arith, a)) h on-n on_p))
        (finish_task pl (suc t) n d e.stands i here)
      where
        go : let d = end_to pl xs t n in (has_in pl xs t p).run ≡ (work_of d i).ended + 1 → ((run_of d n).task ≡ suc i → ⊥) → Finish (suc t) n d i
            → (has_in pl xs t p).run ≡ (work_of (end_to pl xs t (suc n)) i).ended + 1
        go r off (one on-n w e x y z) = absurd (off on-n)
        go r off (stays w x y z) = rw y r

  -- at each instant
  pub told_at : (t : ℕ) → t ≤ clock_limit → (i : ℕ) → i < pl.count → TaskTold t (taken_before pl xs (suc i) t) (desk_at pl xs t) i
  told_at zero l i h = told_start i h
  told_at (suc t) l i h =
      let ks = taken_before pl xs (suc i) (suc t) in
      rw (desk_next pl xs t)
      (told_ends t l i h ks pl.cores (omega arith)
      (told_ran t l i h ks (told_arrived t l i h (arrivals_in xs) (omega arith) (told_at t (omega (arith, l)) i h))))

  -- and among its finishes
  pub told_end_to : (t : ℕ) → t < clock_limit → (i : ℕ) → i < pl.count → (n : ℕ) → n ≤ pl.cores
      → TaskTold (suc t) (taken_before pl xs (suc i) (suc t)) (end_to pl xs t n) i
  told_end_to t l i h n k =
      let ks = taken_before pl xs (suc i) (suc t) in
      told_ends t l i h ks n k (told_ran t l i h ks (told_arrived t l i h (arrivals_in xs) (omega arith) (told_at t (omega (arith, l)) i h)))
