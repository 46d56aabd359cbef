-- No call of a rehearsal is refused but an arrival by 10 or 12.
use Prim.Native.Nat.{ℕ, zero, suc, ◌-◌, ◌≤◌, ◌<◌}
use mathlib.Core.Path.{◌≡◌, refl, ◌∙◌}
use mathlib.Core.Logic.{◌⊎◌, inl, inr}
use mathlib.Core.Bool.{true}
use mathlib.Core.List.{List, [], ◌∷◌}
use native.Mathlib.Omega.{arith}
use lib.Dec.{ltb, eqb}
use borrow.Author.Tests.{ltb-true, ne_eqb, le-ltb}
use Rattle.lists.proofs.Tests.{by_cases, and_left}
use Rattle.units.specs.Limits.{clock_limit, runs_limit}
use Rattle.units.specs.declared.ticks.Ticks.{Ticks}
use Rattle.call_tests.specs.Tests.{release_tests}
use Rattle.planning.specs.declared.Plan.{Plan}
use Rattle.task_state.specs.Tests.{finish_tests}
use Rattle.task_state.specs.Due.{release_at}
use Rattle.dispatch.specs.Release.{release_of}
use Rattle.dispatch.specs.Finish.{finish_of}
use Rattle.dispatch.specs.Look.{look_of}
use Rattle.dispatch.proofs.Answers.{look_answer, finish_answer, release_answer}
use Rattle.dispatch.proofs.Called.{task_call}
use Rattle.arrivals.specs.Arrivals.{arrivals_in, arrival_time, arrival_task}
use Rattle.run_lengths.specs.Work.{length_at}
use Rattle.day_lines.specs.declared.Event.{Event}
use Rattle.day_lines.specs.declared.Event.TheVariants.{Finished, Refused, Spanned, Stopped, Unfinished}
use Rattle.day_rules.specs.Day.{Day, going_at, had_at, work_at, done, events_of}
use Rattle.day.specs.Desk.{Desk, line_of, state_of, run_of, arrival_no, desk_at, fresh_desk}
use Rattle.day.proofs.Kept.{released_of}
use Rattle.day.proofs.Stands.{Busy, Ending}
use Rattle.day.proofs.At.{Fine}
use Rattle.day.proofs.Same.{task_passes, look_passes}
use Rattle.day.proofs.Day.{Is}
use Rattle.day_words.specs.Words.{Among, arrived_to, looked_to, finished_to}
use Rattle.day_words.proofs.Model.{came_to, is_came, is_saw, is_end_to, ending_to, said_is}
use Rattle.day_words.proofs.Said.{Each, each_of, each_more, keeps_tick, keeps_stop}

-- a release passes its task's tests, or meets 10 or 12
release_three : (x live : ℕ) → (release_tests x live ≡ 0) ⊎ ((release_tests x live ≡ 10) ⊎ (release_tests x live ≡ 12))
release_three x live =
    by_cases (ltb clock_limit x)
    (λ e. inr (inr (rw e refl)))
    (λ e. by_cases (eqb live runs_limit) (λ g. inr (inl (rw (e, g) refl))) (λ g. inl (rw (e, g) refl)))

module _ (pl : Plan) (t : ℕ) (l : t ≤ clock_limit) (d : Day) (m : Desk) (s : Is pl t d m) where
  -- a run that has a core and is done can be finished
  ends_taken : (p : ℕ) → p < pl.cores → Ending pl t p m → done d (going_at d p).task ≡ true → (finish_of d.box (going_at d p).task t).refusal ≡ 0
  ends_taken p h e y =
      let i = (going_at d p).task in
      let some = ltb-true 0 i (and_left (ltb 0 i) (eqb (had_at d (i - 1)) (length_at (work_at d (i - 1)) 0)) y) in
      let on : (run_of m p).task ≡ suc (i - 1) = rw (← s.desk) (omega (arith, some)) in
      by (i - 1) (omega (arith, some)) (e.busy p (i - 1) (omega arith) h on)
    where
      test : (j : ℕ) → Busy pl t m p j → finish_tests (line_of pl j) (state_of m j) t ≡ 0
      test j b = rw (ne_eqb (state_of m j).live 0 (λ z. omega (arith, z, b.live)), le-ltb t (released_of (line_of pl j) (state_of m j) 0) b.released) refl

      by : (j : ℕ) → (going_at d p).task ≡ suc j → Busy pl t m p j → (finish_of d.box (going_at d p).task t).refusal ≡ 0
      by j q b =
          let back : suc j - 1 ≡ j = omega arith in
          let i = (going_at d p).task in
          finish_answer d.box i t
          ∙ (task_call (task_passes d.box i t s.good (omega (arith, q)) s.clock l (rw (s.plan, q) b.task))).finish_number
          ∙ rw (q, back, s.plan) (rw (← s.desk) at (test j b))

  -- an arrival's refusal is the model's
  pub refusal_is : (xs : List ℕ) (k : ℕ) → 1 ≤ arrival_task xs k → arrival_task xs k ≤ pl.count
      → (release_of d.box (arrival_task xs k) t).refusal ≡ arrival_no pl xs t k m
  refusal_is xs k from to =
      let i = arrival_task xs k in
      release_answer d.box i t
      ∙ (task_call (task_passes d.box i t s.good from s.clock l (rw s.plan to))).release_number
      ∙ rw (s.plan, ← s.desk) refl

-- a refused arrival's number is 10 or 12
abbrev TenOrTwelve : Event → Type 0
TenOrTwelve (Finished x t late) = Unit {0}
TenOrTwelve (Refused n a i t) = (n ≡ 10) ⊎ (n ≡ 12)
TenOrTwelve (Spanned x from to) = Unit {0}
TenOrTwelve (Stopped t) = Unit {0}
TenOrTwelve (Unfinished x due had n) = Unit {0}

module _ (pl : Plan) (xs : List ℕ) (f : Fine pl xs) (stop : ℕ) (upto : stop ≤ clock_limit) where
  -- each look is taken
  pub looks_taken : (t p : ℕ) → t < stop → p < pl.cores → (look_of (looked_to pl xs t p).box (suc p) t).refusal ≡ 0
  looks_taken t p l h =
      let r = (looked_to pl xs t p).box in
      let s = is_saw pl xs f t (omega (arith, l, upto)) p (omega (arith, h)) in
      look_answer r (suc p) t ∙ look_passes r (suc p) t s.good (omega arith) s.clock (omega (arith, l, upto)) (rw s.plan h)

  -- each finish is
  pub finishes_taken : (t p : ℕ) → t < stop → p < pl.cores → let d = finished_to pl xs t p in let i = (going_at d p).task in
      done d i ≡ true → (finish_of d.box i (suc t)).refusal ≡ 0
  finishes_taken t p l h =
      let k : t < clock_limit = omega (arith, l, upto) in
      ends_taken pl (suc t) k (finished_to pl xs t p) _ (is_end_to pl xs f t k p (omega (arith, h))) p h (ending_to pl xs f t k p (omega (arith, h)))

  -- each arrival's release is, or is refused by 10 or 12
  pub arrivals_refused : (t k : ℕ) → t < stop → k < arrivals_in xs → arrival_time xs k ≡ t
      → let n = (release_of (arrived_to pl xs t k).box (arrival_task xs k) t).refusal in (n ≡ 0) ⊎ ((n ≡ 10) ⊎ (n ≡ 12))
  arrivals_refused t k l h e =
      let u : t < clock_limit = omega (arith, l, upto) in
      let m = came_to pl xs t k in
      let i = arrival_task xs k - 1 in
      rw (refusal_is pl t (omega (arith, u)) (arrived_to pl xs t k) m (is_came pl xs f t u k (omega (arith, h))) xs k (f.from k h) (f.to k h))
      (release_three (release_at (line_of pl i) (state_of m i) t) (state_of m i).live)

  -- so at each instant
  said_ten : (t : ℕ) → t ≤ stop → Each TenOrTwelve (desk_at pl xs t).said
  unfolding desk_at fresh_desk
  said_ten zero l = _
  said_ten (suc t) l =
      keeps_tick (Each TenOrTwelve) pl xs t
      (λ k h e bad es q. each_more TenOrTwelve es (_ ∷ []) q (which k bad, _))
      (λ p h es q. each_more TenOrTwelve es (_ ∷ []) q (_, _))
      (λ p h y late es q. each_more TenOrTwelve es (_ ∷ []) q (_, _))
      (said_ten t (omega (arith, l)))
    where
      which : (k : ℕ) → (arrival_no pl xs t k (came_to pl xs t k) ≡ 0 → ⊥)
          → (arrival_no pl xs t k (came_to pl xs t k) ≡ 10) ⊎ (arrival_no pl xs t k (came_to pl xs t k) ≡ 12)
      which k bad =
          let m = came_to pl xs t k in
          let i = arrival_task xs k - 1 in
          go (release_three (release_at (line_of pl i) (state_of m i) t) (state_of m i).live)
        where
          go : let n = arrival_no pl xs t k (came_to pl xs t k) in (n ≡ 0) ⊎ ((n ≡ 10) ⊎ (n ≡ 12)) → (n ≡ 10) ⊎ (n ≡ 12)
          go (inl z) = absurd (bad z)
          go (inr w) = w

  -- no arrival is said to be refused but by 10 or 12
  pub refused_said : (n a i : ℕ) (u : Ticks) → Among (Refused n a i u) (events_of pl xs stop) → (n ≡ 10) ⊎ (n ≡ 12)
  refused_said n a i u m =
      each_of TenOrTwelve (events_of pl xs stop)
      (keeps_stop (Each TenOrTwelve) pl xs stop
      (λ p h es q. each_more TenOrTwelve es (_ ∷ []) q (_, _))
      (λ es q. each_more TenOrTwelve es (_ ∷ []) q (_, _))
      (λ x due had c es q. each_more TenOrTwelve es (_ ∷ []) q (_, _))
      (rw (said_is pl xs f stop upto) (said_ten stop (omega arith))))
      m
