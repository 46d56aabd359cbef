-- What a rehearsal's calls do to a good record is what the model says: none of 7, 8, 11, 13 and 15 is met.
use Prim.Native.Nat.{ℕ, suc, ◌-◌, ◌≤◌, ◌<◌}
use mathlib.Core.Path.{◌≡◌, refl, ◌∙◌}
use mathlib.Core.Bool.{Bool, true}
use mathlib.Core.List.{List}
use native.Mathlib.Decide.{ℕ_discrete}
use native.Mathlib.Omega.{arith}
use borrow.Author.Tests.{ne_eqb, le-ltb}
use Rattle.units.specs.Limits.{clock_limit}
use Rattle.call_tests.specs.Tests.{shared_tests}
use Rattle.task_state.specs.Runs.{taken_run}
use Rattle.task_state.specs.Tests.{finish_tests}
use Rattle.dispatch.specs.declared.Record.{Record}
use Rattle.dispatch.specs.Record.{line_at, state_at}
use Rattle.dispatch.specs.Sound.{sound_of}
use Rattle.dispatch.specs.Refusals.{task_tests, look_refusal, release_refusal}
use Rattle.dispatch.specs.Shape.{Good}
use Rattle.dispatch.proofs.Called.{task_call}
use Rattle.dispatch.proofs.Answers.{release_taken, release_refused, finish_taken, look_taken}
use Rattle.arrivals.specs.Arrivals.{arrival_task}
use Rattle.day_rules.specs.Day.{Day, going_at, taken, look_at, finished}
use Rattle.day.specs.Desk.{desk_of, arrival_no, takes, choice_at, looks_at, ends_on}

-- a call of a sound record, for a number from 1 to n, at a time from its clock to its limit, passes what every call tests
shared_passed : (sound : Bool) (m n i clock t : ℕ) → sound ≡ true → 1 ≤ i → i ≤ n → clock ≤ t → t ≤ clock_limit → shared_tests sound m n i clock t ≡ 0
shared_passed sound m n i clock t s from to now upto =
    rw (s, ne_eqb i 0 (λ e. omega (arith, from, e)), le-ltb n i to, le-ltb clock_limit t upto, le-ltb t clock now) refl

module _ (r : Record) (i t : ℕ) (g : Good r) (from : 1 ≤ i) (now : r.clock.0 ≤ t) (upto : t ≤ clock_limit) where
  -- so of a task
  pub task_passes : i ≤ r.plan.count → task_tests r i t ≡ 0
  unfolding task_tests
  task_passes to = shared_passed (sound_of r) _ r.plan.count i r.clock.0 t g.sound from to now upto

  -- and of a core
  pub look_passes : i ≤ r.plan.cores → look_refusal r i t ≡ 0
  unfolding look_refusal
  look_passes to = shared_passed (sound_of r) _ r.plan.cores i r.clock.0 t g.sound from to now upto

-- an arrival
pub same_take : (xs : List ℕ) (t k : ℕ) (d : Day) → Good d.box → 1 ≤ arrival_task xs k → arrival_task xs k ≤ d.box.plan.count
    → d.box.clock.0 ≤ t → t ≤ clock_limit → desk_of (taken xs t k d) ≡ takes d.box.plan xs t k (desk_of d)
unfolding taken takes taken_run
same_take xs t k d g from to now upto =
    let r = d.box in
    let i = arrival_task xs k in
    let e = (task_call (task_passes r i t g from now upto to)).release_number in
    go e (ℕ_discrete (release_refusal r i t) 0)
  where
    go : release_refusal d.box (arrival_task xs k) t ≡ arrival_no d.box.plan xs t k (desk_of d) → Dec (release_refusal d.box (arrival_task xs k) t ≡ 0)
        → desk_of (taken xs t k d) ≡ takes d.box.plan xs t k (desk_of d)
    go e (yes z) = rw (release_taken d.box (arrival_task xs k) t refl z refl, ← e, z) refl
    go e (no n) = rw (release_refused d.box (arrival_task xs k) t refl n, ← e, ne_eqb (release_refusal d.box (arrival_task xs k) t) 0 n) refl

-- a look
pub same_look : (t p : ℕ) (d : Day) → Good d.box → p < d.box.plan.cores → d.box.clock.0 ≤ t → t ≤ clock_limit
    → desk_of (look_at t p d) ≡ looks_at d.box.plan t p (desk_of d)
unfolding look_at looks_at choice_at
same_look t p d g l now upto =
    rw (look_taken d.box (suc p) t refl (look_passes d.box (suc p) t g (omega arith) now upto (omega (arith, l))) refl) refl

-- a finish
pub same_end : (t p : ℕ) (d : Day) → Good d.box → let i = (going_at d p).task in
    1 ≤ i → i ≤ d.box.plan.count → finish_tests (line_at d.box (i - 1)) (state_at d.box (i - 1)) t ≡ 0
    → d.box.clock.0 ≤ t → t ≤ clock_limit → desk_of (finished t p d) ≡ ends_on t p (desk_of d)
unfolding finished ends_on
same_end t p d g from to test now upto =
    let r = d.box in
    let i = (going_at d p).task in
    let e = (task_call (task_passes r i t g from now upto to)).finish_number in
    rw (finish_taken r i t refl (e ∙ test) refl refl) refl
