-- What an arrival and a finish do to one task: a run more, the oldest ended, or nothing.
use Prim.Native.Nat.{ℕ, zero, suc, ◌-◌, ◌≤◌, ◌<◌}
use mathlib.Core.Path.{◌≡◌, refl, sym, ap, ◌∙◌}
use mathlib.Core.Bool.{Bool, true, false, ◌&&◌}
use mathlib.Core.List.{List}
use native.Mathlib.Decide.{ℕ_discrete}
use native.Mathlib.Omega.{arith}
use lib.Dec.{ltb, eqb}
use lib.Seq.{get_or-set_same, get_or-set_other}
use borrow.Author.Tests.{eqb-true, eqb-false, ltb-true}
use Rattle.lists.proofs.Tests.{by_cases, and_left, and_right}
use Rattle.units.specs.Limits.{tasks_limit}
use Rattle.planning.specs.declared.Plan.{Plan}
use Rattle.task_state.specs.State.{no_state}
use Rattle.task_state.specs.Due.{release_at}
use Rattle.task_state.specs.Runs.{with_run, without_run}
use Rattle.dispatch.proofs.Records.{task_in}
use Rattle.arrivals.specs.Arrivals.{arrival_time, arrival_task, arrival_length}
use Rattle.run_lengths.specs.Work.{no_work, length_at, with_length, without_length}
use Rattle.day.specs.Desk.{Desk, line_of, state_of, work_of, had_of, run_of, box_of, arrival_no, takes, arrives, arrived_by, done_of, ends_on, ends}
use Rattle.day.proofs.Stands.{Stands}

-- arrival k is task i's, at t, and is taken
abbrev pub is_new : Plan → List ℕ → ℕ → ℕ → Desk → ℕ → Bool
is_new pl xs t k d i = eqb (arrival_time xs k) t && eqb (arrival_task xs k) (suc i) && eqb (arrival_no pl xs t k d) 0

-- what arrival k does to task i
pub data Arrival (pl : Plan) (xs : List ℕ) (t k : ℕ) (d : Desk) (i : ℕ) : Type 0 where
  more : arrival_no pl xs t k d ≡ 0 → arrival_task xs k ≡ suc i → is_new pl xs t k d i ≡ true
      → state_of (arrives pl xs t k d) i ≡ with_run (line_of pl i) (state_of d i) (release_at (line_of pl i) (state_of d i) t)
      → work_of (arrives pl xs t k d) i ≡ with_length (work_of d i) (state_of d i).live (arrival_length xs k) → Arrival pl xs t k d i
  stays : is_new pl xs t k d i ≡ false → state_of (arrives pl xs t k d) i ≡ state_of d i → work_of (arrives pl xs t k d) i ≡ work_of d i
      → Arrival pl xs t k d i

-- arrivals leave the ticks had
pub arrived_had : (pl : Plan) (xs : List ℕ) (t n : ℕ) (d : Desk) → (arrived_by pl xs t n d).had ≡ d.had
unfolding takes
arrived_had pl xs t zero d = refl
arrived_had pl xs t (suc n) d = by_cases (eqb (arrival_time xs n) t) (λ e. rw e (arrived_had pl xs t n d)) (λ e. rw e (arrived_had pl xs t n d))

back : (i : ℕ) → suc i - 1 ≡ i
back i = omega arith

module _ (pl : Plan) (xs : List ℕ) (t k : ℕ) (d : Desk) (s : Stands pl t d) (from : 1 ≤ arrival_task xs k) (i : ℕ) (here : i < pl.count) where
  small : i < tasks_limit
  small = task_in (box_of pl t d) s.good i here

  -- it is taken
  took_state : arrival_task xs k ≡ suc i → arrival_no pl xs t k d ≡ 0
      → state_of (takes pl xs t k d) i ≡ with_run (line_of pl i) (state_of d i) (release_at (line_of pl i) (state_of d i) t)
  unfolding takes
  took_state a ok =
      rw (ok, a, back i) (get_or-set_same d.states i _ no_state (omega (arith, small, s.good.shaped.states)))

  took_work : arrival_task xs k ≡ suc i → arrival_no pl xs t k d ≡ 0
      → work_of (takes pl xs t k d) i ≡ with_length (work_of d i) (state_of d i).live (arrival_length xs k)
  unfolding takes
  took_work a ok = rw (ok, a, back i) (get_or-set_same d.works i _ no_work (omega (arith, small, s.works)))

  -- another task's
  other_state : (arrival_task xs k ≡ suc i → ⊥) → state_of (takes pl xs t k d) i ≡ state_of d i
  unfolding takes
  other_state a =
      by_cases (eqb (arrival_no pl xs t k d) 0)
      (λ e. rw e (get_or-set_other d.states (arrival_task xs k - 1) i _ no_state (λ z. a (omega (arith, z, from)))))
      (λ e. rw e refl)

  other_work : (arrival_task xs k ≡ suc i → ⊥) → work_of (takes pl xs t k d) i ≡ work_of d i
  unfolding takes
  other_work a =
      by_cases (eqb (arrival_no pl xs t k d) 0)
      (λ e. rw e (get_or-set_other d.works (arrival_task xs k - 1) i _ no_work (λ z. a (omega (arith, z, from)))))
      (λ e. rw e refl)

  -- refused
  refused_state : eqb (arrival_no pl xs t k d) 0 ≡ false → state_of (takes pl xs t k d) i ≡ state_of d i
  unfolding takes
  refused_state e = rw e refl

  refused_work : eqb (arrival_no pl xs t k d) 0 ≡ false → work_of (takes pl xs t k d) i ≡ work_of d i
  unfolding takes
  refused_work e = rw e refl

  pub arrival : Arrival pl xs t k d i
  arrival =
      by_cases (eqb (arrival_time xs k) t)
      (λ a. by_cases (eqb (arrival_task xs k) (suc i))
      (λ b. by_cases (eqb (arrival_no pl xs t k d) 0)
      (λ c.
      let ok = eqb-true (arrival_no pl xs t k d) 0 c in
      let its = eqb-true (arrival_task xs k) (suc i) b in
      more ok its (rw (a, b, c) refl) (rw a (took_state its ok)) (rw a (took_work its ok)))
      (λ c. stays (rw (a, b, c) refl) (rw a (refused_state c)) (rw a (refused_work c))))
      (λ b. let n = eqb-false (arrival_task xs k) (suc i) b in stays (rw (a, b) refl) (rw a (other_state n)) (rw a (other_work n))))
      (λ a. stays (rw a refl) (rw a refl) (rw a refl))

-- what core n's finish does to task i
pub data Finish (t n : ℕ) (d : Desk) (i : ℕ) : Type 0 where
  one : (run_of d n).task ≡ suc i → done_of d (run_of d n).task ≡ true → had_of d i ≡ length_at (work_of d i) 0 → state_of (ends t n d) i
      ≡ without_run (state_of d i)
      → work_of (ends t n d) i ≡ without_length (work_of d i) → had_of (ends t n d) i ≡ 0 → Finish t n d i
  stays : ((run_of d n).task ≡ suc i → done_of d (run_of d n).task ≡ false) → state_of (ends t n d) i ≡ state_of d i → work_of (ends t n d) i ≡ work_of d i
      → had_of (ends t n d) i ≡ had_of d i → Finish t n d i

module _ (pl : Plan) (t n : ℕ) (d : Desk) (s : Stands pl t d) (i : ℕ) (here : i < pl.count) where
  small_task : i < tasks_limit
  small_task = task_in (box_of pl t d) s.good i here

  -- its run ends
  module _ (on : (run_of d n).task ≡ suc i) where
    end_state : state_of (ends_on t n d) i ≡ without_run (state_of d i)
    unfolding ends_on
    end_state = rw (on, back i) (get_or-set_same d.states i _ no_state (omega (arith, small_task, s.good.shaped.states)))

    end_work : work_of (ends_on t n d) i ≡ without_length (work_of d i)
    unfolding ends_on
    end_work = rw (on, back i) (get_or-set_same d.works i _ no_work (omega (arith, small_task, s.works)))

    end_had : had_of (ends_on t n d) i ≡ 0
    unfolding ends_on
    end_had = rw (on, back i) (get_or-set_same d.had i 0 0 (omega (arith, small_task, s.had)))

  -- another's does
  module _ (j : ℕ) (on : (run_of d n).task ≡ suc j) (other : i ≡ j → ⊥) where
    off_state : state_of (ends_on t n d) i ≡ state_of d i
    unfolding ends_on
    off_state = rw (on, back j) (get_or-set_other d.states j i _ no_state other)

    off_work : work_of (ends_on t n d) i ≡ work_of d i
    unfolding ends_on
    off_work = rw (on, back j) (get_or-set_other d.works j i _ no_work other)

    off_had : had_of (ends_on t n d) i ≡ had_of d i
    unfolding ends_on
    off_had = rw (on, back j) (get_or-set_other d.had j i 0 0 other)

  pub finish_task : Finish t n d i
  finish_task = by_cases (done_of d (run_of d n).task) (λ e. done e (run_of d n).task refl) (λ e. stays (λ z. e) (rw e refl) (rw e refl) (rw e refl))
    where
      done : done_of d (run_of d n).task ≡ true → (c : ℕ) → (run_of d n).task ≡ c → Finish t n d i
      done e zero z =
          let c = (run_of d n).task in
          let some = ltb-true 0 c (and_left (ltb 0 c) (eqb (had_of d (c - 1)) (length_at (work_of d (c - 1)) 0)) e) in
          absurd (omega (arith, z, some))
      done e (suc j) on = at (ℕ_discrete i j)
        where
          at : Dec (i ≡ j) → Finish t n d i
          at (yes q) =
              let its : (run_of d n).task ≡ suc i = on ∙ ap suc (sym q) in
              let all : (ltb 0 (suc i) && eqb (had_of d i) (length_at (work_of d i) 0)) ≡ true = rw (its, back i) at e in
              one its e (eqb-true (had_of d i) (length_at (work_of d i) 0) (and_right (ltb 0 (suc i)) (eqb (had_of d i) (length_at (work_of d i) 0)) all))
              (rw e (end_state its)) (rw e (end_work its)) (rw e (end_had its))
          at (no q) = stays (λ z. absurd (q (omega (arith, sym z ∙ on)))) (rw e (off_state j on q)) (rw e (off_work j on q)) (rw e (off_had j on q))
