-- How many of each thing a rehearsal says.
use Prim.Native.Nat.{ℕ, zero, suc, ◌+◌, ◌≤◌, ◌<◌}
use mathlib.Core.Path.{◌≡◌, refl, sym, ap, ◌∙◌}
use mathlib.Core.Bool.{Bool, true, false, ◌&&◌}
use mathlib.Core.List.{List, ◌∷◌, append-nil}
use native.Mathlib.Decide.{ℕ_discrete, dec_lt}
use native.Mathlib.Omega.{arith}
use lib.Dec.{leb, eqb}
use lib.ListN.{length, get_or-replicate}
use borrow.Author.Tests.{eq-eqb, ne_eqb, le-leb, lt-leb}
use Rattle.lists.specs.Lists.{bit}
use Rattle.lists.proofs.Tests.{by_cases}
use Rattle.units.specs.Limits.{tasks_limit, clock_limit}
use Rattle.units.specs.Units.{ticks}
use Rattle.planning.specs.declared.Plan.{Plan}
use Rattle.dispatch.specs.Record.{state_at}
use Rattle.dispatch.proofs.Records.{task_in}
use Rattle.arrivals.specs.Arrivals.{arrivals_in, arrival_time, arrival_task}
use Rattle.run_lengths.specs.declared.Work.{Work}
use Rattle.run_lengths.specs.Work.{fresh_work, no_work, with_length, without_length}
use Rattle.day_lines.specs.declared.Event.{Event}
use Rattle.day_lines.specs.declared.Event.TheVariants.{Refused, Stopped}
use Rattle.day_rules.specs.Day.{Day, work_at, day_at, closes, left_of, unfinished, events_of}
use Rattle.day.specs.Desk.{Desk, state_of, work_of, run_of, box_of, arrival_no, takes, arrives, ran_on, done_of, ends_on, ends, fresh_desk, desk_at}
use Rattle.day.proofs.At.{Fine, stands_at}
use Rattle.day.proofs.Day.{is_at}
use Rattle.day_words.specs.Words.{counted, accepted, taken_before, says_refused, says_finished, says_unfinished}
use Rattle.day_words.proofs.Model.{came_to, came, saw_to, ran_in, end_to, desk_next, came_stands, ending_to, said_is}
use Rattle.day_words.proofs.Said.{counted_more, counted_one, KeptBy, keeps_arrived, keeps_looked, keeps_ended, keeps_tick, keeps_closed, keeps_stop}
use Rattle.day_words.proofs.Steps.{Arrival, more, stays, arrival, Finish, one, finish_task}
use Rattle.day_words.proofs.Tasks.{accepted_is, told_at, ran_works, runs_are, numbered}

-- a test that a thing fails counts the same after it
pub off_kept : (f : Event → Bool) (c : ℕ) (e : Event) → f e ≡ false → KeptBy (λ es. counted f es ≡ c) e
off_kept f c e h es q = counted_one f es e ∙ rw h (omega (arith, q))

module _ (pl : Plan) (xs : List ℕ) (f : Fine pl xs) where
  -- arrival k's refusal
  module _ (k : ℕ) (here : k < arrivals_in xs) where
    abbrev said : List Event → ℕ
    said es = counted (says_refused (suc k)) es

    -- another arrival does not say it
    off_arrives : (t n : ℕ) (d : Desk) → (n ≡ k → ⊥) → said (arrives pl xs t n d).said ≡ said d.said
    unfolding takes
    off_arrives t n d h =
        by_cases (eqb (arrival_time xs n) t)
        (λ a. rw a (by_cases (eqb (arrival_no pl xs t n d) 0)
        (λ b. rw (b, append-nil d.said) refl)
        (λ b. rw b
        (off_kept (says_refused (suc k)) (said d.said) (Refused (arrival_no pl xs t n d) (suc n) (arrival_task xs n) (ticks t))
        (ne_eqb (suc n) (suc k) (λ z. h (omega (arith, z)))) d.said refl))))
        (λ a. rw a refl)

    -- its own does where it is not taken
    own_arrives : (t : ℕ) (d : Desk) → arrival_time xs k ≡ t
        → said (arrives pl xs t k d).said + bit (eqb (arrival_no pl xs t k d) 0) ≡ said d.said + 1
    unfolding takes
    own_arrives t d e =
        rw (eq-eqb (arrival_time xs k) t e) (by_cases (eqb (arrival_no pl xs t k d) 0)
        (λ b. rw (b, append-nil d.said) refl)
        (λ b. rw (
          b,
          counted_one (says_refused (suc k)) d.said (Refused (arrival_no pl xs t k d) (suc k) (arrival_task xs k) (ticks t)),
          eq-eqb (suc k) (suc k) refl,
        ) (omega arith)))

    -- a tick that is not its time says nothing of it
    off_tick : (t c : ℕ) → (arrival_time xs k ≡ t → ⊥) → said (desk_at pl xs t).said ≡ c → said (desk_at pl xs (suc t)).said ≡ c
    off_tick t c off q =
        keeps_tick (λ es. said es ≡ c) pl xs t
        (λ j h e bad. off_kept (says_refused (suc k)) c _
        (ne_eqb (suc j) (suc k) (λ z. off (ap (arrival_time xs) (omega (arith, z)) ∙ e))))
        (λ p h. off_kept (says_refused (suc k)) c _ refl)
        (λ p h y late. off_kept (says_refused (suc k)) c _ refl)
        q

    -- before it
    before_time : (t : ℕ) → t ≤ arrival_time xs k → said (desk_at pl xs t).said ≡ 0
    unfolding desk_at fresh_desk
    before_time zero l = refl
    before_time (suc t) l = off_tick t 0 (λ e. omega (arith, l, e)) (before_time t (omega (arith, l)))

    -- in it
    arrivals_before : (t n : ℕ) → n ≤ k → said (came_to pl xs t n).said ≡ said (desk_at pl xs t).said
    arrivals_before t zero l = refl
    arrivals_before t (suc n) l = off_arrives t n (came_to pl xs t n) (λ e. omega (arith, l, e)) ∙ arrivals_before t n (omega (arith, l))

    arrivals_after : (t n : ℕ) → arrival_time xs k ≡ t → k < n
        → said (came_to pl xs t n).said + bit (eqb (arrival_no pl xs t k (came_to pl xs t k)) 0) ≡ said (desk_at pl xs t).said + 1
    arrivals_after t zero e l = absurd (omega (arith, l))
    arrivals_after t (suc n) e l = go (λ h. arrivals_after t n e h) (ℕ_discrete n k)
      where
        go : (k < n → said (came_to pl xs t n).said + bit (eqb (arrival_no pl xs t k (came_to pl xs t k)) 0) ≡ said (desk_at pl xs t).said + 1) → Dec (n ≡ k)
            → said (came_to pl xs t (suc n)).said + bit (eqb (arrival_no pl xs t k (came_to pl xs t k)) 0) ≡ said (desk_at pl xs t).said + 1
        go below (yes q) =
            let last : said (came_to pl xs t (suc n)).said ≡ said (came_to pl xs t (suc k)).said = ap (λ (m : ℕ). said (came_to pl xs t (suc m)).said) q in
            omega (arith, last, own_arrives t (came_to pl xs t k) e, arrivals_before t k (omega arith))
        go below (no q) = omega (arith, off_arrives t n (came_to pl xs t n) q, below (omega (arith, l, q)))

    in_tick : (t : ℕ) → t < clock_limit → arrival_time xs k ≡ t → said (desk_at pl xs (suc t)).said + bit (accepted pl xs k) ≡ 1
    unfolding ran_on
    in_tick t l e =
        let c = said (came pl xs t).said in
        let a : said (saw_to pl xs t pl.cores).said ≡ c =
        keeps_looked (λ es. said es ≡ c) pl xs t (came pl xs t) pl.cores (λ p h. off_kept (says_refused (suc k)) c _ refl) refl in
        let b : said (end_to pl xs t pl.cores).said ≡ c =
        keeps_ended (λ es. said es ≡ c) (suc t) (ran_in pl xs t) pl.cores (λ p h y late. off_kept (says_refused (suc k)) c _ refl) a in
        rw (desk_next pl xs t, b, accepted_is pl xs f t k l here e)
        (arrivals_after t (arrivals_in xs) e here ∙ rw (before_time t (omega (arith, e))) refl)

    -- after it
    after_time_lem : (t : ℕ) → arrival_time xs k < t → t ≤ clock_limit → said (desk_at pl xs t).said + bit (accepted pl xs k) ≡ 1
    after_time_lem zero l h = absurd (omega (arith, l))
    after_time_lem (suc t) l h = go (λ b. after_time_lem t b (omega (arith, h))) (ℕ_discrete (arrival_time xs k) t)
      where
        go : (arrival_time xs k < t → said (desk_at pl xs t).said + bit (accepted pl xs k) ≡ 1) → Dec (arrival_time xs k ≡ t)
            → said (desk_at pl xs (suc t)).said + bit (accepted pl xs k) ≡ 1
        go below (yes e) = in_tick t h e
        go below (no e) = rw (off_tick t (said (desk_at pl xs t).said) e refl) (below (omega (arith, l, e)))

    -- at the stop: an arrival before it is refused once, or accepted
    pub refused_once : (stop : ℕ) → stop ≤ clock_limit → arrival_time xs k < stop
        → counted (says_refused (suc k)) (events_of pl xs stop) + bit (accepted pl xs k) ≡ 1
    refused_once stop upto l =
        let c = said (day_at pl xs stop).said in
        let e : said (events_of pl xs stop) ≡ c =
        keeps_stop (λ es. said es ≡ c) pl xs stop (λ p h. off_kept (says_refused (suc k)) c _ refl) (off_kept (says_refused (suc k)) c _ refl)
        (λ x due had n. off_kept (says_refused (suc k)) c _ refl) refl in
        rw (e, said_is pl xs f stop upto) (after_time_lem stop l upto)

-- one number more
leb_next : (m e : ℕ) → bit (leb m (e + 1)) ≡ bit (leb m e) + bit (eqb (e + 1) m)
leb_next m e = go (ℕ_discrete (e + 1) m) (dec_lt e m)
  where
    go : Dec (e + 1 ≡ m) → Dec (e < m) → bit (leb m (e + 1)) ≡ bit (leb m e) + bit (eqb (e + 1) m)
    go (yes q) h = rw (le-leb m (e + 1) (omega (arith, q)), lt-leb m e (omega (arith, q)), eq-eqb (e + 1) m q) refl
    go (no q) (yes h) = rw (lt-leb m (e + 1) (omega (arith, q, h)), lt-leb m e h, ne_eqb (e + 1) m q) refl
    go (no q) (no h) = rw (le-leb m (e + 1) (omega (arith, h)), le-leb m e (omega (arith, h)), ne_eqb (e + 1) m q) refl

-- run m of task i, from 0
module _ (pl : Plan) (xs : List ℕ) (f : Fine pl xs) (i : ℕ) (its : i < pl.count) (m : ℕ) (some : 1 ≤ m) where
  abbrev finishes : List Event → ℕ
  finishes es = counted (says_finished (suc i) m) es

  ended_with : (d : Desk) (n k : ℕ) → (with_length (work_of d i) n k).ended ≡ (work_of d i).ended
  unfolding with_length
  ended_with d n k = refl

  ended_without : (d : Desk) → (without_length (work_of d i)).ended ≡ (work_of d i).ended + 1
  unfolding without_length
  ended_without d = refl

  -- arrivals end no run
  ended_came : (t : ℕ) → t < clock_limit → (n : ℕ) → n ≤ arrivals_in xs → (work_of (came_to pl xs t n) i).ended ≡ (work_of (desk_at pl xs t) i).ended
  ended_came t l zero h = refl
  ended_came t l (suc n) h =
      let d = came_to pl xs t n in
      go (arrival pl xs t n d (came_stands pl xs f t l n (omega (arith, h))).0 (f.from n h) i its) ∙ ended_came t l n (omega (arith, h))
    where
      go : Arrival pl xs t n (came_to pl xs t n) i → (work_of (came_to pl xs t (suc n)) i).ended ≡ (work_of (came_to pl xs t n) i).ended
      go (more ok a e x y) = rw y (ended_with (came_to pl xs t n) _ _)
      go (stays e x y) = rw y refl

  -- what core n's finish says
  ends_said : (t n : ℕ) (d : Desk) → done_of d (run_of d n).task ≡ true
      → finishes (ends t n d).said ≡ finishes d.said + bit (eqb (run_of d n).task (suc i) && eqb (run_of d n).run m)
  unfolding ends_on
  ends_said t n d y = rw y (counted_one (says_finished (suc i) m) d.said _)

  module _ (t : ℕ) (l : t < clock_limit) where
    -- the finishes of the first n cores
    finished_ends : (n : ℕ) → n ≤ pl.cores → finishes (ran_in pl xs t).said ≡ bit (leb m (work_of (ran_in pl xs t) i).ended)
        → finishes (end_to pl xs t n).said ≡ bit (leb m (work_of (end_to pl xs t n) i).ended)
    finished_ends zero h q = q
    finished_ends (suc n) h q =
        let d = end_to pl xs t n in
        let e = ending_to pl xs f t l n (omega (arith, h)) in
        go (finished_ends n (omega (arith, h)) q) (finish_task pl (suc t) n d e.stands i its)
      where
        d : Desk
        d = end_to pl xs t n

        go : finishes d.said ≡ bit (leb m (work_of d i).ended) → Finish (suc t) n d i
            → finishes (end_to pl xs t (suc n)).said ≡ bit (leb m (work_of (end_to pl xs t (suc n)) i).ended)
        go r (one on y all a b c) =
            let number : (run_of d n).run ≡ (work_of d i).ended + 1 =
            rw (runs_are pl xs f t l i its n n) (numbered pl xs f t l i its n n (omega arith) h (rw (runs_are pl xs f t l i its n n) at on)) in
            let more_said : finishes (end_to pl xs t (suc n)).said ≡ finishes d.said + bit (eqb ((work_of d i).ended + 1) m) =
            ends_said (suc t) n d y ∙ rw (on, number, eq-eqb (suc i) (suc i) refl) refl in
            rw (b, ended_without d) (omega (arith, more_said, r, leb_next m (work_of d i).ended))
        go r (stays off a b c) = by_cases (done_of d (run_of d n).task) other (λ y. rw (b, y) r)
          where
            other : done_of d (run_of d n).task ≡ true → finishes (end_to pl xs t (suc n)).said ≡ bit (leb m (work_of (end_to pl xs t (suc n)) i).ended)
            other y =
                let not-its = ne_eqb (run_of d n).task (suc i) (λ z. omega (arith, ap bit (sym y ∙ off z))) in
                let no_more : finishes (end_to pl xs t (suc n)).said ≡ finishes d.said = ends_said (suc t) n d y ∙ rw not-its (omega arith) in
                rw b (no_more ∙ r)

  -- at each instant the runs that are finished are those that ended
  finished_start : finishes (desk_at pl xs 0).said ≡ bit (leb m (work_of (desk_at pl xs 0) i).ended)
  unfolding desk_at fresh_desk fresh_work
  finished_start =
      let small = task_in (box_of pl 0 (desk_at pl xs 0)) (stands_at pl xs f 0 (omega arith)).0.good i its in
      rw (get_or-replicate tasks_limit i fresh_work no_work small, lt-leb m 0 some) refl

  ran_finished : (t : ℕ) → finishes (saw_to pl xs t pl.cores).said ≡ finishes (ran_in pl xs t).said
  unfolding ran_on
  ran_finished t = refl

  finished_at : (t : ℕ) → t ≤ clock_limit → finishes (desk_at pl xs t).said ≡ bit (leb m (work_of (desk_at pl xs t) i).ended)
  finished_at zero l = finished_start
  finished_at (suc t) l =
      let c = finishes (desk_at pl xs t).said in
      let a : finishes (came pl xs t).said ≡ c =
      keeps_arrived (λ es. finishes es ≡ c) pl xs t (desk_at pl xs t) (arrivals_in xs) (λ k h e bad. off_kept (says_finished (suc i) m) c _ refl) refl in
      let b : finishes (saw_to pl xs t pl.cores).said ≡ c =
      keeps_looked (λ es. finishes es ≡ c) pl xs t (came pl xs t) pl.cores (λ p h. off_kept (says_finished (suc i) m) c _ refl) a in
      let e : (work_of (ran_in pl xs t) i).ended ≡ (work_of (desk_at pl xs t) i).ended =
      ap (λ (w : Work). w.ended) (ran_works pl xs f t l i its) ∙ ended_came t l (arrivals_in xs) (omega arith) in
      rw (desk_next pl xs t)
      (finished_ends t l pl.cores (omega arith) (sym (ran_finished t) ∙ b ∙ finished_at t (omega (arith, l)) ∙ ap (λ (n : ℕ). bit (leb m n)) (sym e)))

  -- the unfinished runs of a task, after the stop
  abbrev unfinisheds : List Event → ℕ
  unfinisheds es = counted (says_unfinished (suc i) m) es

  left_own : (d : Day) (n : ℕ) → unfinisheds (left_of d i n) + bit (leb m (work_at d i).ended) ≡ bit (leb m ((work_at d i).ended + n))
  left_own d zero = let e : (work_at d i).ended + 0 ≡ (work_at d i).ended = omega arith in rw e (omega arith)
  left_own d (suc n) =
      let w = work_at d i in
      let e : w.ended + suc n ≡ w.ended + n + 1 = omega arith in
      let g : w.ended + 1 + n ≡ w.ended + n + 1 = omega arith in
      rw (e, counted_one (says_unfinished (suc i) m) (left_of d i n) _, eq-eqb (suc i) (suc i) refl, g)
      (omega (arith, left_own d n, leb_next m (w.ended + n)))

  left_other : (d : Day) (j n : ℕ) → (j ≡ i → ⊥) → unfinisheds (left_of d j n) ≡ 0
  left_other d j zero h = refl
  left_other d j (suc n) h =
      rw (counted_one (says_unfinished (suc i) m) (left_of d j n) _, ne_eqb (suc j) (suc i) (λ z. h (omega (arith, z)))) (omega (arith, left_other d j n h))

  left_none : (d : Day) (n : ℕ) → n ≤ i → unfinisheds (unfinished d n) ≡ 0
  left_none d zero l = refl
  left_none d (suc n) l =
      counted_more (says_unfinished (suc i) m) (unfinished d n) (left_of d n (state_at d.box n).live)
      ∙ rw (left_none d n (omega (arith, l)), left_other d n (state_at d.box n).live (λ z. omega (arith, z, l))) refl

  left_all : (d : Day) (n : ℕ) → i < n
      → unfinisheds (unfinished d n) + bit (leb m (work_at d i).ended) ≡ bit (leb m ((work_at d i).ended + (state_at d.box i).live))
  left_all d zero l = absurd (omega (arith, l))
  left_all d (suc n) l = go (λ h. left_all d n h) (ℕ_discrete n i)
    where
      last : unfinisheds (unfinished d (suc n)) ≡ unfinisheds (unfinished d n) + unfinisheds (left_of d n (state_at d.box n).live)
      last = counted_more (says_unfinished (suc i) m) (unfinished d n) (left_of d n (state_at d.box n).live)

      its_last : unfinisheds (unfinished d (suc i)) ≡ unfinisheds (unfinished d i) + unfinisheds (left_of d i (state_at d.box i).live)
      its_last = counted_more (says_unfinished (suc i) m) (unfinished d i) (left_of d i (state_at d.box i).live)

      go : (i < n → unfinisheds (unfinished d n) + bit (leb m (work_at d i).ended) ≡ bit (leb m ((work_at d i).ended + (state_at d.box i).live)))
          → Dec (n ≡ i) → unfinisheds (unfinished d (suc n)) + bit (leb m (work_at d i).ended) ≡ bit (leb m ((work_at d i).ended + (state_at d.box i).live))
      go below (yes q) =
          let same_left : unfinisheds (unfinished d (suc n)) ≡ unfinisheds (unfinished d (suc i)) = ap (λ (k : ℕ). unfinisheds (unfinished d (suc k))) q in
          omega (arith, same_left, its_last, left_none d i (omega arith), left_own d (state_at d.box i).live)
      go below (no q) = omega (arith, last, left_other d n (state_at d.box n).live q, below (omega (arith, l, q)))

  -- nothing is said to be unfinished before
  none_before : (t : ℕ) → unfinisheds (desk_at pl xs t).said ≡ 0
  unfolding desk_at fresh_desk
  none_before zero = refl
  none_before (suc t) =
      keeps_tick (λ es. unfinisheds es ≡ 0) pl xs t
      (λ k h e bad. off_kept (says_unfinished (suc i) m) 0 _ refl)
      (λ p h. off_kept (says_unfinished (suc i) m) 0 _ refl)
      (λ p h y late. off_kept (says_unfinished (suc i) m) 0 _ refl)
      (none_before t)

  -- at the stop: run m is finished or unfinished once if the task has had as many, and else neither
  pub runs_once : (stop : ℕ) → stop ≤ clock_limit → let es = events_of pl xs stop in
      counted (says_finished (suc i) m) es + counted (says_unfinished (suc i) m) es ≡ bit (leb m (length (taken_before pl xs (suc i) stop)))
  unfolding events_of
  runs_once stop upto =
      let d = day_at pl xs stop in
      let w = desk_at pl xs stop in
      let is = is_at pl xs f stop upto in
      let c = finishes w.said in
      let same-said = said_is pl xs f stop upto in
      let a : finishes (events_of pl xs stop) ≡ c =
      keeps_stop (λ es. finishes es ≡ c) pl xs stop (λ p h. off_kept (says_finished (suc i) m) c _ refl) (off_kept (says_finished (suc i) m) c _ refl)
      (λ x due had n. off_kept (says_finished (suc i) m) c _ refl) (ap finishes same-said) in
      let closed : unfinisheds (closes stop pl.cores d).said ≡ 0 =
      keeps_closed (λ es. unfinisheds es ≡ 0) stop d pl.cores (λ p h. off_kept (says_unfinished (suc i) m) 0 _ refl)
      (ap unfinisheds same-said ∙ none_before stop) in
      let b : unfinisheds (events_of pl xs stop) ≡ unfinisheds (unfinished d pl.count) =
      counted_more (says_unfinished (suc i) m) (closes stop pl.cores d).said (Stopped (ticks stop) ∷ unfinished d pl.count) ∙ rw closed (omega arith) in
      let ended : (work_at d i).ended ≡ (work_of w i).ended = ap (λ (x : Desk). (work_of x i).ended) is.desk in
      let live : (state_at d.box i).live ≡ (state_of w i).live = ap (λ (x : Desk). (state_of x i).live) is.desk in
      let left = left_all d pl.count its in
      let all = (told_at pl xs f stop upto i its).all in
      rw (a, b, finished_at stop upto, all) (omega (arith, rw (ended, live) at left))
