-- A call that is not refused has passed every test.
use Prim.Native.Nat.{ℕ, ◌-◌, ◌≤◌, ◌<◌}
use mathlib.Core.Path.{◌≡◌, refl}
use mathlib.Core.Bool.{Bool, true, false, cond, not}
use native.Mathlib.Omega.{arith}
use lib.Dec.{ltb, eqb}
use borrow.Author.Tests.{ltb-false, eqb-true, eqb-false, not-false}
use Rattle.units.specs.Limits.{clock_limit}
use Rattle.units.specs.Refusals.{task_no, past_no, clock_no, core_no, unsound_no}
use Rattle.lists.proofs.Tests.{by_cases, or_false_left, or_false_right}
use Rattle.task_state.specs.Tests.{release_tests, finish_tests}
use Rattle.dispatch.specs.declared.Record.{Record}
use Rattle.dispatch.specs.Record.{line_at, state_at}
use Rattle.dispatch.specs.Sound.{sound_of}
use Rattle.call_tests.specs.Tests.{outside, time_tests, shared_tests}
use Rattle.dispatch.specs.Refusals.{task_tests, look_refusal, release_refusal, finish_refusal}

-- no refusal: this test does not apply, and none after it
gate : (b : Bool) (m n : ℕ) → 0 < m → cond b m n ≡ 0 → (b ≡ false) × (n ≡ 0)
gate true m n h e = absurd (omega arith)
gate false m n h e = (refl, e)

-- a number from 1 to n, which is below n from 0, and a time from the clock to its limit
pub record Passed (r : Record) (n i t : ℕ) : Type 0 where
  pub sound : sound_of r ≡ true
  pub from : 0 < i
  pub to : i ≤ n
  pub here : i - 1 < n
  pub limit : t ≤ clock_limit
  pub clock : r.clock.0 ≤ t

-- 15, then 7 or 13, then 12, then 8
passed : (r : Record) (n m i t : ℕ) → 0 < m → shared_tests (sound_of r) m n i r.clock.0 t ≡ 0 → Passed r n i t
passed r n m i t h e =
    let a = gate (not (sound_of r)) unsound_no (cond (outside n i) m (time_tests r.clock.0 t)) (omega arith) e in
    let b = gate (outside n i) m (time_tests r.clock.0 t) h a.1 in
    let c = gate (ltb clock_limit t) clock_no (cond (ltb t r.clock.0) past_no 0) (omega arith) b.1 in
    let d = gate (ltb t r.clock.0) past_no 0 (omega arith) c.1 in
    let some = eqb-false i 0 (or_false_left (eqb i 0) (ltb n i) b.0) in
    let to = ltb-false n i (or_false_right (eqb i 0) (ltb n i) b.0) in
    record {
      sound = not-false (sound_of r) a.0;
      from = omega (arith, some);
      to = to;
      here = omega (arith, some, to);
      limit = ltb-false clock_limit t c.0;
      clock = ltb-false t r.clock.0 d.0;
    }

module _ (r : Record) (i t : ℕ) where
  -- a call for a task
  pub task_passed : task_tests r i t ≡ 0 → Passed r r.plan.count i t
  unfolding task_tests
  task_passed e = passed r r.plan.count task_no i t (omega arith) e

  -- a look
  pub look_passed : look_refusal r i t ≡ 0 → Passed r r.plan.cores i t
  unfolding look_refusal
  look_passed e = passed r r.plan.cores core_no i t (omega arith) e

  -- the tests of every call for a task, then its own
  both : (own : ℕ) → cond (eqb (task_tests r i t) 0) own (task_tests r i t) ≡ 0 → (task_tests r i t ≡ 0) × (own ≡ 0)
  both own e =
      by_cases (eqb (task_tests r i t) 0)
      (λ z. (eqb-true (task_tests r i t) 0 z, rw z at e))
      (λ z. absurd (eqb-false (task_tests r i t) 0 z (rw z at e)))

  -- a release
  pub release_passed : release_refusal r i t ≡ 0 → Passed r r.plan.count i t × (release_tests (line_at r (i - 1)) (state_at r (i - 1)) t ≡ 0)
  unfolding release_refusal
  release_passed e = let p = both (release_tests (line_at r (i - 1)) (state_at r (i - 1)) t) e in (task_passed p.0, p.1)

  -- a finish
  pub finish_passed : finish_refusal r i t ≡ 0 → Passed r r.plan.count i t × (finish_tests (line_at r (i - 1)) (state_at r (i - 1)) t ≡ 0)
  unfolding finish_refusal
  finish_passed e = let p = both (finish_tests (line_at r (i - 1)) (state_at r (i - 1)) t) e in (task_passed p.0, p.1)
