-- A day by calls is the model's desk at each instant.
use Prim.Native.Nat.{ℕ, zero, suc, ◌+◌, ◌-◌, ◌≤◌, ◌<◌}
use mathlib.Core.Path.{◌≡◌, refl, sym, ap, ◌∙◌, subst}
use mathlib.Core.Bool.{Bool, true, false, cond}
use mathlib.Core.List.{List}
use native.Mathlib.Decide.{ℕ_discrete}
use native.Mathlib.Omega.{arith}
use native.Mathlib.Numerals.{add-one}
use lib.Dec.{ltb, eqb}
use lib.ListN.{set}
use borrow.Author.Tests.{ltb-true, ne_eqb, le-ltb}
use Rattle.lists.proofs.Tests.{by_cases, and_left}
use Rattle.units.specs.Limits.{clock_limit}
use Rattle.units.specs.Units.{ticks}
use Rattle.planning.specs.declared.Plan.{Plan}
use Rattle.task_state.specs.Tests.{finish_tests}
use Rattle.dispatch.specs.declared.Record.{Record}
use Rattle.dispatch.specs.declared.call.Call.{Call}
use Rattle.dispatch.specs.declared.call.Call.TheVariants.{Release, Finish, Look}
use Rattle.dispatch.specs.Record.{record_of}
use Rattle.dispatch.specs.Calls.{time_of, call_refusal, step}
use Rattle.dispatch.specs.Shape.{Good}
use Rattle.dispatch.proofs.Keeps.{release_good, finish_good, look_good}
use Rattle.dispatch.proofs.Always.{step_plan, refused_same, accepted_clock}
use Rattle.dispatch.proofs.Fresh.{fresh_good}
use Rattle.arrivals.specs.Arrivals.{arrivals_in, arrival_time, arrival_task}
use Rattle.day_rules.specs.Day.{Day, going_at, taken, arrivals, look_at, looks, run_on, runs_on, done, finished, finish, finishes, start_day, day_at}
use Rattle.run_lengths.specs.Work.{length_at}
use Rattle.goings.specs.Going.{ran_by}
use Rattle.day.specs.Desk.{Desk, desk_of, line_of, state_of, work_of, had_of, run_of, takes, arrived_by, looks_at, looked_at, ran_on, done_of, ends_on, ends, ended_by, fresh_desk, desk_at}
use Rattle.day.proofs.Same.{same_take, same_look, same_end}
use Rattle.day.proofs.Kept.{released_of}
use Rattle.day.proofs.Stands.{Busy, Ending, ending_start}
use Rattle.day.proofs.At.{Fine, ending_all, arrived_stands, lasts_one, cores_wide, stands_at}

-- a day whose record is good and of this plan, at a clock of at most t, and which is this desk
pub record Is (pl : Plan) (t : ℕ) (d : Day) (m : Desk) : Type 0 where
  pub good : Good d.box
  pub plan : d.box.plan ≡ pl
  pub clock : d.box.clock.0 ≤ t
  pub desk : desk_of d ≡ m

-- a call's record has a clock of at most the call's time
clock_after : (r : Record) (c : Call) (t : ℕ) → time_of c ≡ t → r.clock.0 ≤ t → (step r c).clock.0 ≤ t
clock_after r c t e l = go (ℕ_discrete (call_refusal r c) 0)
  where
    go : Dec (call_refusal r c ≡ 0) → (step r c).clock.0 ≤ t
    go (yes z) = omega (arith, accepted_clock r c z, e)
    go (no z) = rw (refused_same r c z) l

module _ (pl : Plan) (t : ℕ) (l : t ≤ clock_limit) (d : Day) (m : Desk) (s : Is pl t d m) where
  -- an arrival
  pub is_take : (xs : List ℕ) (k : ℕ) → 1 ≤ arrival_task xs k → arrival_task xs k ≤ pl.count → Is pl t (taken xs t k d) (takes pl xs t k m)
  unfolding taken
  is_take xs k from to =
      let c = Release (arrival_task xs k) (ticks t) in
      record {
        good = release_good d.box (arrival_task xs k) t s.good;
        plan = step_plan d.box c ∙ s.plan;
        clock = clock_after d.box c t refl s.clock;
        desk = same_take xs t k d s.good from (rw s.plan to) s.clock l ∙ rw (s.plan, s.desk) refl;
      }

  -- a look
  pub is_look : (p : ℕ) → p < pl.cores → Is pl t (look_at t p d) (looks_at pl t p m)
  unfolding look_at
  is_look p h =
      let c = Look (suc p) (ticks t) in
      record {
        good = look_good d.box (suc p) t s.good;
        plan = step_plan d.box c ∙ s.plan;
        clock = clock_after d.box c t refl s.clock;
        desk = same_look t p d s.good (rw s.plan h) s.clock l ∙ rw (s.plan, s.desk) refl;
      }

  -- a run that has a core can be finished
  can_finish : (p i : ℕ) → Busy pl t m p i → finish_tests (line_of pl i) (state_of m i) t ≡ 0
  can_finish p i b = rw (ne_eqb (state_of m i).live 0 (λ z. omega (arith, z, b.live)), le-ltb t (released_of (line_of pl i) (state_of m i) 0) b.released) refl

  -- and is
  is_ended : (p i : ℕ) → (run_of m p).task ≡ suc i → Busy pl t m p i → Is pl t (finished t p d) (ends_on t p m)
  unfolding finished
  is_ended p i w b =
      let j = (going_at d p).task in
      let c = Finish j (ticks t) in
      let q : j ≡ suc i = rw (← s.desk) at w in
      let back : suc i - 1 ≡ i = omega arith in
      record {
        good = finish_good d.box j t s.good;
        plan = step_plan d.box c ∙ s.plan;
        clock = clock_after d.box c t refl s.clock;
        desk =
            same_end t p d s.good (omega (arith, q)) (rw (s.plan, q) b.task)
            (rw (q, back, s.plan) (rw (← s.desk) at (can_finish p i b))) s.clock l
            ∙ ap (ends_on t p) s.desk;
      }

  -- a finish, where its run is done
  pub is_end : (p : ℕ) → p < pl.cores → Ending pl t p m → Is pl t (finish t p d) (ends t p m)
  is_end p h e = go (done_of m (run_of m p).task) refl
    where
      same_done : done d (going_at d p).task ≡ done_of m (run_of m p).task
      same_done = rw (← s.desk) refl

      one : (i : ℕ) → done_of m i ≡ true → i ≡ suc (i - 1)
      one i w =
          let k = ltb-true 0 i (and_left (ltb 0 i) (eqb (had_of m (i - 1)) (length_at (work_of m (i - 1)) 0)) w) in
          omega (arith, k)

      go : (b : Bool) → done_of m (run_of m p).task ≡ b → Is pl t (finish t p d) (ends t p m)
      go false q = rw (same_done, q) s
      go true q =
          let i = (run_of m p).task - 1 in
          let w = one (run_of m p).task q in
          rw (same_done, q) (is_ended p i w (e.busy p i (omega arith) h w))

-- a tick for core n's run
abbrev one_more : ℕ → Desk → Desk
one_more n x =
    let i = (run_of x n).task in
    record {
      states = x.states;
      works = x.works;
      had = cond (eqb i 0) x.had (set x.had (i - 1) (had_of x (i - 1) + 1));
      going = x.going;
      said = x.said;
    }

run_more : (n : ℕ) (d : Day) → desk_of (run_on n d) ≡ one_more n (desk_of d)
unfolding run_on
run_more n d = let i = (going_at d n).task in rw (add-one (had_of (desk_of d) (i - 1))) refl

-- for each
runs_had : (n : ℕ) (d : Day) → desk_of (runs_on n d) ≡ ran_on 1 n (desk_of d)
unfolding ran_on ran_by
runs_had zero d = refl
runs_had (suc n) d = run_more n (runs_on n d) ∙ ap (one_more n) (runs_had n d)

-- and the record stays
run_box : (n : ℕ) (d : Day) → (runs_on n d).box ≡ d.box
unfolding run_on
run_box zero d = refl
run_box (suc n) d = run_box n d

pub is_runs : (pl : Plan) (t n : ℕ) (d : Day) (m : Desk) → Is pl t d m → Is pl (suc t) (runs_on n d) (ran_on 1 n m)
is_runs pl t n d m s = record {
  good = rw (run_box n d) s.good;
  plan = rw (run_box n d) s.plan;
  clock = rw (run_box n d) (omega (arith, s.clock));
  desk = runs_had n d ∙ ap (ran_on 1 n) s.desk;
}

-- at the start
start : (pl : Plan) (xs : List ℕ) → Fine pl xs → Is pl 0 (start_day (record_of pl)) fresh_desk
unfolding start_day fresh_desk record_of
start pl xs f = record { good = fresh_good pl f.shaped f.sound; plan = refl; clock = omega arith; desk = refl }

module _ (pl : Plan) (xs : List ℕ) (f : Fine pl xs) where
  -- the arrivals of a tick
  pub is_arrivals : (t n : ℕ) (d : Day) (m : Desk) → t ≤ clock_limit → n ≤ arrivals_in xs → Is pl t d m → Is pl t (arrivals xs t n d) (arrived_by pl xs t n m)
  is_arrivals t zero d m l k s = s
  is_arrivals t (suc n) d m l k s =
      let b = is_arrivals t n d m l (omega (arith, k)) s in
      by_cases (eqb (arrival_time xs n) t)
      (λ e. rw e (is_take pl t l (arrivals xs t n d) (arrived_by pl xs t n m) b xs n (f.from n k) (f.to n k)))
      (λ e. rw e b)

  -- its looks
  pub is_looks : (t n : ℕ) (d : Day) (m : Desk) → t ≤ clock_limit → n ≤ pl.cores → Is pl t d m → Is pl t (looks t n d) (looked_at pl t n m)
  is_looks t zero d m l k s = s
  is_looks t (suc n) d m l k s = is_look pl t l (looks t n d) (looked_at pl t n m) (is_looks t n d m l (omega (arith, k)) s) n k

  -- its finishes
  pub is_ends : (t n : ℕ) (d : Day) (m : Desk) → t ≤ clock_limit → n ≤ pl.cores → Ending pl t 0 m → Is pl t d m → Is pl t (finishes t n d) (ended_by t n m)
  is_ends t zero d m l k e s = s
  is_ends t (suc n) d m l k e s =
      is_end pl t l (finishes t n d) (ended_by t n m) (is_ends t n d m l (omega (arith, k)) e s) n k (ending_all pl t n m (omega (arith, k)) e)

  -- the one law: a day by calls is the model's
  pub is_at : (t : ℕ) → t ≤ clock_limit → Is pl t (day_at pl xs t) (desk_at pl xs t)
  unfolding day_at desk_at
  is_at zero l = start pl xs f
  is_at (suc t) l =
      let a = is_at t (omega (arith, l)) in
      let b = is_arrivals t (arrivals_in xs) (day_at pl xs t) (desk_at pl xs t) (omega (arith, l)) (omega arith) a in
      let m = arrived_by pl xs t (arrivals_in xs) (desk_at pl xs t) in
      let day = looks t pl.cores (arrivals xs t (arrivals_in xs) (day_at pl xs t)) in
      let c = is_looks t pl.cores (arrivals xs t (arrivals_in xs) (day_at pl xs t)) m (omega (arith, l)) (omega arith) b in
      let at = stands_at pl xs f t (omega (arith, l)) in
      let on = arrived_stands pl xs f t (arrivals_in xs) (desk_at pl xs t) (omega arith) at.0 at.1 in
      let ran = ran_on 1 pl.cores (looked_at pl t pl.cores m) in
      let one : t + 1 ≡ suc t = omega arith in
      let e = ending_start pl t m on.0 on.1 1 (omega arith) (omega (arith, l)) (lasts_one pl xs f t m on.0 on.1) (cores_wide pl xs f) in
      let g = is_ends (suc t) pl.cores (runs_on pl.cores day) ran l (omega arith) (subst (λ (u : ℕ). Ending pl u 0 ran) one e)
      (is_runs pl t pl.cores day (looked_at pl t pl.cores m) c) in
      subst (λ (u : ℕ). Is pl (suc t) (finishes (suc t) pl.cores (runs_on pl.cores day)) (ended_by u pl.cores ran)) (sym one) g
