-- Where a rehearsal is: what its code holds is the model's desk within an instant.
use Prim.Native.Nat.{ℕ, zero, suc, ◌+◌, ◌-◌, ◌≤◌, ◌<◌}
use mathlib.Core.Path.{◌≡◌, refl, sym, ap, ◌∙◌}
use mathlib.Core.Logic.{◌⊎◌, inl, inr}
use mathlib.Core.Bool.{Bool, true, false, cond}
use mathlib.Core.List.{List, [], ◌∷◌, ◌++◌}
use native.Mathlib.Decide.{ℕ_discrete}
use native.Mathlib.Omega.{arith}
use lib.Dec.{ltb, eqb}
use lib.IntN.{sub_ℕ}
use lib.ListN.{length, get_or, set, length-set}
use lib.Seq.{get_or-set_same, get_or-set_other}
use Rattle.lists.proofs.Tests.{by_cases}
use borrow.Author.Tests.{ltb-true, ltb-false, ne_eqb}
use Rattle.units.specs.Limits.{tasks_limit, clock_limit}
use Rattle.units.specs.Units.{ticks}
use Rattle.planning.specs.declared.Plan.{Plan}
use Rattle.task_state.specs.Key.{deadline_of}
use Rattle.arrivals.specs.Arrivals.{arrivals_in, arrival_time, arrival_task, arrival_length}
use Rattle.fronts.specs.declared.Front.{Front}
use Rattle.fronts.specs.Front.{no_front, front_of}
use Rattle.seats.specs.declared.Seat.{Seat}
use Rattle.seats.specs.declared.Ended.{Ended}
use Rattle.seats.specs.Seat.{Arrived}
use Rattle.seats.specs.Seat.{seat, no_seat, arrived_of, ended_of}
use Rattle.goings.specs.declared.Going.{Going}
use Rattle.instants.specs.declared.Seen.{Seen}
use Rattle.instants.specs.Seen.{idle, seen_of, next_of, least_left}
use Rattle.instants.proofs.Least.{least_whole, least_beyond}
use Rattle.goings.specs.Going.{no_going, ran_by}
use Rattle.instants.specs.Goings.{goings_of}
use Rattle.day_lines.specs.declared.Event.TheVariants.{Finished, Refused}
use Rattle.dispatch.proofs.Records.{task_in}
use Rattle.day_rules.specs.Day.{ran}
use Rattle.day_rules.specs.Spans.{spans_end}
use Rattle.day.specs.Desk.{Desk, line_of, state_of, work_of, run_of, box_of, arrival_no, takes, choice_at, number_of, looked_at, ran_on, done_of, ends_on, ends, within, desk_at}
use Rattle.day.proofs.Stands.{Stands, Resting, Busy, Ending, state_here, work_here, state_there, work_there, had_are, going_are}
use Rattle.day.proofs.At.{Fine, cores_wide, state_here as arrived_state, work_here as arrived_work, state_there as other_state, work_there as other_work, had_same, going_same, same_states, same_works, same_had, same_going}
use Rattle.day.proofs.Within.{core_more, arrival_more, on_arrivals, on_cores, arrivals_all, within_ending, within_stands}
use Rattle.day.proofs.Looked.{goes_task, goes_run, looked_states, looked_works, looked_had, looked_at_lem}
use Rattle.day.proofs.Skip.{seen, arrived_none}
use Rattle.day.proofs.Jump.{sights, jump, jump_some, jump_most, jumped, jumped_all, task_is, run_is}
use Rattle.day.proofs.Onward.{goings_same, looked_said}
use Rattle.rehearsal.proofs.Parted.{coming_cases}
use Rattle.rehearsal.specs.Parts.{coming_at, done_by, core_after}

-- what the code holds of each task is the desk's
pub record Holds (pl : Plan) (d : Desk) (ss : List Seat) (fs : List Front) (hs : List ℕ) (gs : List Going) : Type 0 where
  pub seats : length ss ≡ tasks_limit
  pub fronts : length fs ≡ tasks_limit
  pub seated : (i : ℕ) → i < tasks_limit → get_or ss i no_seat ≡ seat (state_of d i) (work_of d i)
  pub front : (i : ℕ) → i < pl.count → get_or fs i no_front ≡ front_of (line_of pl i) (state_of d i) (work_of d i)
  pub had : hs ≡ d.had
  pub going : gs ≡ d.going

-- the instant, the next arrival and the next core are in their order
pub record Stage (pl : Plan) (xs : List ℕ) (stop t k c : ℕ) : Type 0 where
  pub time : t ≤ stop
  pub core : c ≤ pl.cores
  pub next : k ≤ arrivals_in xs
  pub begun : c < pl.cores → 0 < t
  pub before : (j : ℕ) → j < k → arrival_time xs j ≤ t
  pub ending : c < pl.cores → (j : ℕ) → j < k → arrival_time xs j < t
  pub ended : t ≡ stop → (j : ℕ) → j < k → arrival_time xs j < t
  pub coming : (j : ℕ) → k ≤ j → j < arrivals_in xs → t ≤ arrival_time xs j

-- one task's part is stored
module _ (pl : Plan) (d e : Desk) (ss : List Seat) (fs : List Front) (hs : List ℕ) (gs : List Going) (h : Holds pl d ss fs hs gs)
    (i : ℕ) (small : i < tasks_limit) (x : Seat) (f : Front) where
  stored : (ys : List ℕ) (zs : List Going) → x ≡ seat (state_of e i) (work_of e i) → f ≡ front_of (line_of pl i) (state_of e i) (work_of e i)
      → ((j : ℕ) → (j ≡ i → ⊥) → state_of e j ≡ state_of d j) → ((j : ℕ) → (j ≡ i → ⊥) → work_of e j ≡ work_of d j) → ys ≡ e.had → zs ≡ e.going
      → Holds pl e (set ss i x) (set fs i f) ys zs
  stored ys zs here there states works q r = record {
    seats = length-set ss i x ∙ h.seats;
    fronts = length-set fs i f ∙ h.fronts;
    seated = λ j l. sit j l (ℕ_discrete j i);
    front = λ j l. show j l (ℕ_discrete j i);
    had = q;
    going = r;
  }
    where
      sit : (j : ℕ) → j < tasks_limit → Dec (j ≡ i) → get_or (set ss i x) j no_seat ≡ seat (state_of e j) (work_of e j)
      sit j l (yes z) = rw z (get_or-set_same ss i x no_seat (omega (arith, small, h.seats)) ∙ here)
      sit j l (no z) = get_or-set_other ss i j x no_seat z ∙ h.seated j l ∙ rw (states j z, works j z) refl

      show : (j : ℕ) → j < pl.count → Dec (j ≡ i) → get_or (set fs i f) j no_front ≡ front_of (line_of pl j) (state_of e j) (work_of e j)
      show j l (yes z) = rw z (get_or-set_same fs i f no_front (omega (arith, small, h.fronts)) ∙ there)
      show j l (no z) = get_or-set_other fs i j f no_front z ∙ h.front j l ∙ rw (states j z, works j z) refl

module _ (pl : Plan) (xs : List ℕ) (f : Fine pl xs) (stop : ℕ) (upto : stop ≤ clock_limit) (t k c : ℕ) (s : Stage pl xs stop t k c)
    (ss : List Seat) (fs : List Front) (hs : List ℕ) (gs : List Going) (h : Holds pl (within pl xs t k c) ss fs hs gs) where
  abbrev d : Desk
  d = within pl xs t k c

  -- a core's run may be done
  module _ (l : c < pl.cores) where
    abbrev run : Going
    run = get_or gs c no_going

    same_run : run ≡ run_of d c
    same_run = rw h.going refl

    next : within pl xs t k (suc c) ≡ ends t c d
    next = core_more pl xs t k c (s.begun l) l (s.ending l)

    e : Ending pl t c d
    e = within_ending pl xs f t k c (s.begun l) (omega (arith, s.time, upto)) l

    stage_more : Stage pl xs stop t k (suc c)
    stage_more = record {
      time = s.time;
      core = omega (arith, l);
      next = s.next;
      begun = λ m. s.begun l;
      before = s.before;
      ending = λ m. s.ending l;
      ended = λ z j b. s.ending l j b;
      coming = s.coming;
    }

    -- what is tested is whether it is done
    done_is : done_by run.task (get_or fs (run.task - 1) no_front).length (get_or hs (run.task - 1) 0) ≡ done_of d (run_of d c).task
    unfolding front_of
    done_is = go (run_of d c).task refl
      where
        go : (i : ℕ) → (run_of d c).task ≡ i → done_by run.task (get_or fs (run.task - 1) no_front).length (get_or hs (run.task - 1) 0) ≡ done_of d
            (run_of d c).task
        go zero z = rw (same_run, z) refl
        go (suc i) z =
            let back : suc i - 1 ≡ i = omega arith in
            rw (same_run, z, back, h.front i (e.busy c i (omega arith) l z).task, h.had) refl

    -- what an ended run says
    said_is : (i : ℕ) → (run_of d c).task ≡ suc i
        → (ends_on t c d).said ≡ d.said ++ (Finished (ran c run.task run.run) (ticks t) (sub_ℕ t (deadline_of (state_of d i))) ∷ [])
    unfolding ends_on
    said_is i on = let back : suc i - 1 ≡ i = omega arith in rw (same_run, on, back) refl

    -- it is not
    pub still : done_by run.task (get_or fs (run.task - 1) no_front).length (get_or hs (run.task - 1) 0) ≡ false
        → Stage pl xs stop t k (suc c) × Holds pl (within pl xs t k (suc c)) ss fs hs gs × ((within pl xs t k (suc c)).said ≡ d.said)
    still z =
        let q : within pl xs t k (suc c) ≡ d = next ∙ rw (sym done_is ∙ z) refl in
        (stage_more, rw q h, ap (λ (x : Desk). x.said) q)

    -- it is
    module _ (i : ℕ) (on : run.task ≡ suc i) where
      task_on : (run_of d c).task ≡ suc i
      task_on = sym (ap (λ (g : Going). g.task) same_run) ∙ on

      pub busy : Busy pl t d c i
      busy = e.busy c i (omega arith) l task_on

      pub small : i < tasks_limit
      small = task_in (box_of pl t d) e.stands.good i busy.task

      pub finished : done_by run.task (get_or fs (run.task - 1) no_front).length (get_or hs (run.task - 1) 0) ≡ true
          → (x : Ended) → x ≡ ended_of (line_of pl i) (get_or ss i no_seat).state (get_or ss i no_seat).work t
          → Stage pl xs stop t k (suc c) × Holds pl (within pl xs t k (suc c)) (set ss i x.seat) (set fs i x.front) (set hs i 0) gs
          × ((within pl xs t k (suc c)).said ≡ d.said ++ (Finished (ran c run.task run.run) (ticks t) x.late ∷ []))
      unfolding ended_of
      finished z x q =
          let n : within pl xs t k (suc c) ≡ ends_on t c d = next ∙ rw (sym done_is ∙ z) refl in
          let a = state_here pl t c d e l i task_on in
          let b = work_here pl t c d e l i task_on in (
            stage_more,
            rw (n, q, h.seated i small)
                (stored pl d (ends_on t c d) ss fs hs gs h i small _ _ (set hs i 0) gs
                (rw (a, b) refl) (rw (a, b) refl)
                (λ j o. state_there pl t c d e l i task_on j o) (λ j o. work_there pl t c d e l i task_on j o)
                (rw h.had (sym (had_are pl t c d e l i task_on))) (h.going ∙ sym (going_are pl t c d e l i task_on))),
            ap (λ (y : Desk). y.said) n ∙ rw (q, h.seated i small) (said_is i task_on),
          )

  -- an arrival is taken, or refused
  module _ (over : pl.cores ≤ c) (early : t < stop) (here : k < arrivals_in xs) (now : arrival_time xs k ≡ t) where
    abbrev i : ℕ
    i = arrival_task xs k - 1

    at : Stands pl t d × Resting pl t d
    at = within_stands pl xs f t k c (omega (arith, early, upto)) over s.next

    pub in_table : i < pl.count
    in_table = omega (arith, f.from k here, f.to k here)

    pub few : i < tasks_limit
    few = task_in (box_of pl t d) at.0.good i in_table

    taking : within pl xs t (suc k) c ≡ takes pl xs t k d
    taking = arrival_more pl xs t k c over now

    stage_arrived : Stage pl xs stop t (suc k) c
    stage_arrived = record {
      time = s.time;
      core = s.core;
      next = here;
      begun = s.begun;
      before = λ j b. earlier j b (ℕ_discrete j k);
      ending = λ m. absurd (omega (arith, m, over));
      ended = λ z. absurd (omega (arith, z, early));
      coming = λ j b m. s.coming j (omega (arith, b)) m;
    }
      where
        earlier : (j : ℕ) → j < suc k → Dec (j ≡ k) → arrival_time xs j ≤ t
        earlier j b (yes z) = rw (z, now) (omega arith)
        earlier j b (no z) = s.before j (omega (arith, b, z))

    takes_said : (takes pl xs t k d).said ≡ d.said ++ cond (eqb (arrival_no pl xs t k d) 0) [] (Refused (arrival_no pl xs t k d) (suc k)
        (arrival_task xs k) (ticks t) ∷ [])
    unfolding takes
    takes_said = refl

    holds_taken : (x : Arrived) → x ≡ arrived_of (line_of pl i) (state_of d i) (work_of d i) t (arrival_length xs k)
        → Holds pl (takes pl xs t k d) (set ss i x.seat) (set fs i x.front) hs gs
    unfolding arrived_of
    holds_taken x q = go (ℕ_discrete (arrival_no pl xs t k d) 0)
      where
        go : Dec (arrival_no pl xs t k d ≡ 0) → Holds pl (takes pl xs t k d) (set ss i x.seat) (set fs i x.front) hs gs
        go (yes z) =
            let a = arrived_state pl xs t k d at.0 at.1 (f.from k here) (f.to k here) (f.some k here) (f.fits k here) z in
            let b = arrived_work pl xs t k d at.0 at.1 (f.from k here) (f.to k here) (f.some k here) (f.fits k here) z in
            stored pl d (takes pl xs t k d) ss fs hs gs h i few x.seat x.front hs gs
            (rw (q, z, a, b) refl) (rw (q, z, a, b) refl)
            (λ j o. other_state pl xs t k d at.0 at.1 (f.from k here) (f.to k here) (f.some k here) (f.fits k here) z j o)
            (λ j o. other_work pl xs t k d at.0 at.1 (f.from k here) (f.to k here) (f.some k here) (f.fits k here) z j o)
            (h.had ∙ sym (had_same pl xs t k d at.0 at.1 (f.from k here) (f.to k here) (f.some k here) (f.fits k here) z))
            (h.going ∙ sym (going_same pl xs t k d at.0 at.1 (f.from k here) (f.to k here) (f.some k here) (f.fits k here) z))
        go (no z) =
            let a = same_states pl xs t k d at.0 at.1 (f.from k here) (f.to k here) (f.some k here) (f.fits k here) z in
            let b = same_works pl xs t k d at.0 at.1 (f.from k here) (f.to k here) (f.some k here) (f.fits k here) z in
            stored pl d (takes pl xs t k d) ss fs hs gs h i few x.seat x.front hs gs
            (rw (q, ne_eqb (arrival_no pl xs t k d) 0 z, a, b) refl) (rw (q, ne_eqb (arrival_no pl xs t k d) 0 z, a, b) refl)
            (λ j o. rw a refl) (λ j o. rw b refl)
            (h.had ∙ sym (same_had pl xs t k d at.0 at.1 (f.from k here) (f.to k here) (f.some k here) (f.fits k here) z))
            (h.going ∙ sym (same_going pl xs t k d at.0 at.1 (f.from k here) (f.to k here) (f.some k here) (f.fits k here) z))

    no_is : (x : Arrived) → x ≡ arrived_of (line_of pl i) (state_of d i) (work_of d i) t (arrival_length xs k) → arrival_no pl xs t k d ≡ x.refusal
    unfolding arrived_of
    no_is x w = sym (ap (λ (y : Arrived). y.refusal) w)

    pub arrived : (x : Arrived) → x ≡ arrived_of (line_of pl i) (get_or ss i no_seat).state (get_or ss i no_seat).work t (arrival_length xs k)
        → Stage pl xs stop t (suc k) c × Holds pl (within pl xs t (suc k) c) (set ss i x.seat) (set fs i x.front) hs gs
        × ((within pl xs t (suc k) c).said ≡ d.said ++ cond (eqb x.refusal 0) [] (Refused x.refusal (suc k) (arrival_task xs k) (ticks t) ∷ []))
    arrived x q =
        let w : x ≡ arrived_of (line_of pl i) (state_of d i) (work_of d i) t (arrival_length xs k) = q ∙ rw (h.seated i few) refl in
        (stage_arrived, rw taking (holds_taken x w), ap (λ (y : Desk). y.said) taking ∙ takes_said ∙ rw (no_is x w) refl)

-- times do not fall
pub rising_all : (xs : List ℕ) (n : ℕ) → ((j : ℕ) → j + 1 < n → arrival_time xs j ≤ arrival_time xs (j + 1)) → (k j : ℕ) → k ≤ j → j < n
    → arrival_time xs k ≤ arrival_time xs j
rising_all xs n up k zero l b = let e : k ≡ 0 = omega (arith, l) in rw e (omega arith)
rising_all xs n up k (suc j) l b = go (ℕ_discrete k (suc j)) (λ m. rising_all xs n up k j m (omega (arith, b)))
  where
    go : Dec (k ≡ suc j) → (k ≤ j → arrival_time xs k ≤ arrival_time xs j) → arrival_time xs k ≤ arrival_time xs (suc j)
    go (yes e) below = rw e (omega arith)
    go (no e) below =
        let one : j + 1 ≡ suc j = omega arith in
        omega (arith, below (omega (arith, l, e)), rw one at (up j (omega (arith, b))))

module _ (pl : Plan) (xs : List ℕ) (f : Fine pl xs) (up : (j : ℕ) → j + 1 < arrivals_in xs → arrival_time xs j ≤ arrival_time xs (j + 1))
    (stop : ℕ) (upto : stop ≤ clock_limit) (some : 0 < pl.cores) (t k c : ℕ) (s : Stage pl xs stop t k c)
    (ss : List Seat) (fs : List Front) (hs : List ℕ) (gs : List Going) (h : Holds pl (within pl xs t k c) ss fs hs gs)
    (over : pl.cores ≤ c) (early : t < stop) (later : coming_at xs k stop ≡ t → ⊥) where
  abbrev v : ℕ
  v = coming_at xs k stop

  -- it comes later, and not after the stop
  pub coming_now : (t < v) × (v ≤ stop) × ((j : ℕ) → k ≤ j → j < arrivals_in xs → v ≤ arrival_time xs j)
  coming_now = go (coming_cases xs k stop)
    where
      go : ((k < arrivals_in xs) × (arrival_time xs k < stop) × (coming_at xs k stop ≡ arrival_time xs k))
          ⊎ ((coming_at xs k stop ≡ stop) × ((k < arrivals_in xs) → stop ≤ arrival_time xs k))
          → (t < v) × (v ≤ stop) × ((j : ℕ) → k ≤ j → j < arrivals_in xs → v ≤ arrival_time xs j)
      go (inl (b, l, e)) = (
        omega (arith, s.coming k (omega arith) b, e, later),
        omega (arith, e, l),
        λ j a m. omega (arith, e, rising_all xs (arrivals_in xs) up k j a m),
      )
      go (inr (e, g)) = (
        omega (arith, e, early),
        omega (arith, e),
        λ j a m. omega (arith, e, g (omega (arith, a, m)), rising_all xs (arrivals_in xs) up k j a m),
      )

  -- all arrivals of the instant are taken
  all_taken : within pl xs t k c ≡ seen pl xs t 0
  all_taken =
      on_arrivals pl xs t k c over
      ∙ sym (arrivals_all pl xs t k (arrivals_in xs) (desk_at pl xs t) s.next (λ j a m z. omega (arith, coming_now.2 j a m, coming_now.0, z)))

  abbrev z : Desk
  z = seen pl xs t 0

  held : Holds pl z ss fs hs gs
  held = rw all_taken at h

  stands : Stands pl t z × Resting pl t z
  stands = rw all_taken at (within_stands pl xs f t k c (omega (arith, early, upto)) over s.next)

  pub coming_all : (j : ℕ) → j < arrivals_in xs → t < arrival_time xs j → v ≤ arrival_time xs j
  coming_all j b l = go (ltb j k) refl
    where
      go : (x : Bool) → ltb j k ≡ x → v ≤ arrival_time xs j
      go true q = absurd (omega (arith, s.before j (ltb-true j k q), l))
      go false q = coming_now.2 j (ltb-false j k q) b

  abbrev within_limit : v ≤ clock_limit
  within_limit = omega (arith, coming_now.1, upto)

  -- how long it is
  abbrev pub long : ℕ
  long = jump pl xs f t v coming_now.0 within_limit coming_all fs

  -- each core's choice
  abbrev pub sees : List Seen
  sees = sights pl xs f t v coming_now.0 within_limit coming_all fs

  pub long_some : 0 < long
  long_some = jump_some pl xs f t v coming_now.0 within_limit coming_all fs stands.0 stands.1 held.front

  pub long_most : t + long ≤ stop
  long_most = omega (arith, jump_most pl xs f t v coming_now.0 within_limit coming_all fs stands.0 stands.1 held.front, coming_now.1)

  -- at most so long
  abbrev pub most : ℕ
  most = next_of fs t v pl.count - t

  -- the next core then: all are through, where each choice has more left
  abbrev pub core_on : ℕ
  core_on = core_after sees most pl.cores

  after_all : most < least_left sees (most + 1) pl.cores → within pl xs (t + long) k pl.cores ≡ ran_on long pl.cores (looked_at pl t pl.cores z)
  after_all more =
      on_arrivals pl xs (t + long) k pl.cores (omega arith)
      ∙ arrived_none pl xs (t + long) k (desk_at pl xs (t + long)) (λ j b e. omega (arith, s.before j b, e, long_some))
      ∙ jumped_all pl xs f t v coming_now.0 within_limit coming_all fs stands.0 stands.1 held.front
      (λ p l some. omega (arith, least_whole sees most pl.cores more, least_beyond sees most pl.cores more p l some))

  after_jump : within pl xs (t + long) k core_on ≡ ran_on long pl.cores (looked_at pl t pl.cores z)
  unfolding core_after
  after_jump =
      by_cases (ltb most (least_left sees (most + 1) pl.cores))
      (λ e. rw e (after_all (ltb-true most (least_left sees (most + 1) pl.cores) e)))
      (λ e.
      rw e
      (on_cores pl xs (t + long) k 0 some
      ∙ jumped pl xs f t v coming_now.0 within_limit coming_all fs stands.0 stands.1 held.front))

  core_most : core_on ≤ pl.cores
  unfolding core_after
  core_most = by_cases (ltb most (least_left sees (most + 1) pl.cores)) (λ e. rw e (omega arith)) (λ e. rw e (omega arith))

  tasks : (p : ℕ) → p < pl.cores → (get_or sees p idle).task ≡ choice_at pl t z p
  tasks = task_is pl xs f t v coming_now.0 within_limit coming_all fs stands.0 stands.1 held.front

  runs : (p : ℕ) → p < pl.cores → (get_or sees p idle).run ≡ number_of z (choice_at pl t z p)
  runs = run_is pl xs f t v coming_now.0 within_limit coming_all fs stands.0 stands.1 held.front

  wide : pl.cores ≤ length z.going
  wide = omega (arith, stands.0.going, cores_wide pl xs f)

  -- the runs that have the cores
  going_after : goings_of gs sees t pl.cores ≡ (looked_at pl t pl.cores z).going
  going_after = rw held.going (goings_same pl t z sees pl.cores wide tasks runs)

  has_task : (p : ℕ) → p < pl.cores → (get_or (goings_of gs sees t pl.cores) p no_going).task ≡ choice_at pl t z p
  has_task p l =
      rw (going_after, looked_at_lem pl t z pl.cores p l wide) (goes_task (run_of z p) (choice_at pl t z p) (number_of z (choice_at pl t z p)) t)

  has_run : (p : ℕ) → p < pl.cores → (get_or (goings_of gs sees t pl.cores) p no_going).run ≡ number_of z (choice_at pl t z p)
  has_run p l =
      rw (going_after, looked_at_lem pl t z pl.cores p l wide) (goes_run (run_of z p) (choice_at pl t z p) (number_of z (choice_at pl t z p)) t)

  -- and the ticks had
  had_after : ran_by (goings_of gs sees t pl.cores) long hs pl.cores
      ≡ ran_by (looked_at pl t pl.cores z).going long (looked_at pl t pl.cores z).had pl.cores
  had_after = rw (going_after, looked_had pl t z pl.cores, held.had) refl

  stage_jumped : Stage pl xs stop (t + long) k core_on
  stage_jumped = record {
    time = long_most;
    core = core_most;
    next = s.next;
    begun = λ m. omega (arith, long_some);
    before = λ j b. omega (arith, s.before j b);
    ending = λ m j b. omega (arith, s.before j b, long_some);
    ended = λ q j b. omega (arith, s.before j b, long_some);
    coming = λ j a b.
        omega (arith, jump_most pl xs f t v coming_now.0 within_limit coming_all fs stands.0 stands.1 held.front, coming_now.2 j a b);
  }

  holds_ran : Holds pl (ran_on long pl.cores (looked_at pl t pl.cores z)) ss fs (ran_by (goings_of gs sees t pl.cores) long hs pl.cores)
      (goings_of gs sees t pl.cores)
  unfolding ran_on
  holds_ran = record {
    seats = held.seats;
    fronts = held.fronts;
    seated = λ i l. rw (looked_states pl t z pl.cores, looked_works pl t z pl.cores) (held.seated i l);
    front = λ i l. rw (looked_states pl t z pl.cores, looked_works pl t z pl.cores) (held.front i l);
    had = had_after;
    going = going_after;
  }

  said_ran : (ran_on long pl.cores (looked_at pl t pl.cores z)).said ≡ z.said ++ spans_end gs (goings_of gs sees t pl.cores) t pl.cores
  unfolding ran_on
  said_ran = rw held.going (looked_said pl t z pl.cores (goings_of z.going sees t pl.cores)
      (λ p l. rw held.going at (has_task p l)) (λ p l. rw held.going at (has_run p l)))

  pub jumped_on : Stage pl xs stop (t + long) k core_on
      × Holds pl (within pl xs (t + long) k core_on) ss fs (ran_by (goings_of gs sees t pl.cores) long hs pl.cores) (goings_of gs sees t pl.cores)
      × ((within pl xs (t + long) k core_on).said ≡ (within pl xs t k c).said ++ spans_end gs (goings_of gs sees t pl.cores) t pl.cores)
  jumped_on = (
    stage_jumped,
    rw after_jump holds_ran,
    ap (λ (y : Desk). y.said) after_jump ∙ said_ran ∙ rw all_taken refl,
  )

  -- the same by what the code holds
  abbrev pub chosen : List Seen
  chosen = seen_of fs hs t pl.count

  same_sees : chosen ≡ sees
  same_sees = ap (λ (ys : List ℕ). seen_of fs ys t pl.count) held.had

  abbrev pub ticks_on : ℕ
  ticks_on = least_left chosen most pl.cores

  abbrev pub going_on : List Going
  going_on = goings_of gs chosen t pl.cores

  abbrev pub next_core : ℕ
  next_core = core_after chosen most pl.cores

  pub ticks_some : 0 < ticks_on
  ticks_some = rw same_sees long_some

  pub jumped_by : Stage pl xs stop (t + ticks_on) k next_core
      × Holds pl (within pl xs (t + ticks_on) k next_core) ss fs (ran_by going_on ticks_on hs pl.cores) going_on
      × ((within pl xs (t + ticks_on) k next_core).said ≡ (within pl xs t k c).said ++ spans_end gs going_on t pl.cores)
  jumped_by = rw same_sees jumped_on
