-- A call is refused with the first number that applies, and hands back the same record; or it is taken.
use Prim.Native.Nat.{ℕ, ◌-◌}
use mathlib.Core.Path.{◌≡◌, refl, sym, ap}
use lib.Dec.{eqb}
use lib.IntN.{ℤ, pos, sub_ℕ}
use borrow.Author.Tests.{eqb-true, ne_eqb}
use Rattle.units.specs.Units.{ticks}
use Rattle.units.specs.declared.ticks.Ticks.{Ticks}
use Rattle.core_choice.specs.declared.Told.{Told}
use Rattle.core_choice.specs.Told.{told_of, choice_told}
use Rattle.core_choice.proofs.Numbers.{told_again}
use Rattle.lists.proofs.Tests.{by_cases}
use Rattle.task_state.specs.declared.State.{State}
use Rattle.task_state.specs.declared.runs.Taken.{Taken}
use Rattle.task_state.specs.Key.{deadline_of}
use Rattle.task_state.specs.Runs.{taken_run, without_run}
use Rattle.dispatch.specs.declared.Record.{Record}
use Rattle.core_choice.specs.declared.Choice.{Choice}
use Rattle.core_choice.specs.declared.Choice.TheVariants.{Idle}
use Rattle.dispatch.specs.Look.{Looked}
use Rattle.dispatch.specs.Look.{LookedTold}
use Rattle.dispatch.specs.Record.{line_at, state_at, moved}
use Rattle.dispatch.specs.Refusals.{task_tests, look_refusal, release_refusal, finish_refusal}
use Rattle.dispatch.specs.Release.{take_release, refuse_release, release_of, release_or}
use Rattle.dispatch.specs.Finish.{take_finish, refuse_finish, finish_of, finish_or}
use Rattle.dispatch.specs.Look.{choice_of, at_time, look_of, look_or}

module _ (r : Record) (i t : ℕ) where
  -- a number that applies to every call for a task is a release's
  pub release_first : {n : ℕ} → n ≡ task_tests r i t → (n ≡ 0 → ⊥) → n ≡ release_refusal r i t
  unfolding release_refusal
  release_first {n} q z = rw (← q, ne_eqb n 0 z)

  -- and a finish's
  pub finish_first : {n : ℕ} → n ≡ task_tests r i t → (n ≡ 0 → ⊥) → n ≡ finish_refusal r i t
  unfolding finish_refusal
  finish_first {n} q z = rw (← q, ne_eqb n 0 z)

  -- a release that is refused with number n, or taken as run x; and the number that it answers
  pub release_refused : {n : ℕ} → n ≡ release_refusal r i t → (n ≡ 0 → ⊥)
      → release_of r i t ≡ record { refusal = n; core = 0; deadline = ticks 0; next = r }
  unfolding release_of refuse_release
  release_refused {n} q z = rw (← q, ne_eqb n 0 z)

  pub release_taken : {n : ℕ} {x : Taken} → n ≡ release_refusal r i t → n ≡ 0 → x ≡ taken_run (line_at r (i - 1)) (state_at r (i - 1)) t
      → release_of r i t ≡ record { refusal = n; core = x.core; deadline = x.deadline; next = moved r (i - 1) x.state t }
  unfolding release_of take_release taken_run
  release_taken q e w = rw (← q, e, w)

  pub release_answer : (release_of r i t).refusal ≡ release_refusal r i t
  unfolding release_of take_release refuse_release
  release_answer = by_cases (eqb (release_refusal r i t) 0) (λ e. rw e (sym (eqb-true (release_refusal r i t) 0 e))) (λ e. rw e)

  -- a finish, that is z late and leaves state st
  pub finish_refused : {n : ℕ} → n ≡ finish_refusal r i t → (n ≡ 0 → ⊥) → finish_of r i t ≡ record { refusal = n; late = pos 0; next = r }
  unfolding finish_of refuse_finish
  finish_refused {n} q z = rw (← q, ne_eqb n 0 z)

  pub finish_taken : {n : ℕ} {z : ℤ} {st : State} → n ≡ finish_refusal r i t → n ≡ 0
      → z ≡ sub_ℕ t (deadline_of (state_at r (i - 1))) → st ≡ without_run (state_at r (i - 1))
      → finish_of r i t ≡ record { refusal = n; late = z; next = moved r (i - 1) st t }
  unfolding finish_of take_finish
  finish_taken q e v w = rw (← q, e, v, w)

  pub finish_answer : (finish_of r i t).refusal ≡ finish_refusal r i t
  unfolding finish_of take_finish refuse_finish
  finish_answer = by_cases (eqb (finish_refusal r i t) 0) (λ e. rw e (sym (eqb-true (finish_refusal r i t) 0 e))) (λ e. rw e)

  -- a look at core i, that chooses x
  pub look_refused : {n : ℕ} → n ≡ look_refusal r i t → (n ≡ 0 → ⊥) → look_of r i t ≡ record { refusal = n; choice = Idle; next = r }
  unfolding look_of
  look_refused {n} q z = rw (← q, ne_eqb n 0 z)

  pub look_taken : {n : ℕ} {x : Choice} → n ≡ look_refusal r i t → n ≡ 0 → x ≡ choice_of (at_time r t) i
      → look_of r i t ≡ record { refusal = n; choice = x; next = at_time r t }
  unfolding look_of
  look_taken q e w = rw (← q, e, w)

  pub look_answer : (look_of r i t).refusal ≡ look_refusal r i t
  unfolding look_of
  look_answer = by_cases (eqb (look_refusal r i t) 0) (λ e. rw e (sym (eqb-true (look_refusal r i t) 0 e))) (λ e. rw e)

  -- the same with what is answered where the call is refused
  module _ (core : ℕ) (deadline : Ticks) where
    pub release_or_refused : {n : ℕ} → n ≡ release_refusal r i t → (n ≡ 0 → ⊥)
        → release_or r i t core deadline ≡ record { refusal = n; core = core; deadline = deadline; next = r }
    unfolding release_or
    release_or_refused {n} q z = rw (release_refused q z, ne_eqb n 0 z)

  module _ (late : ℤ) where
    pub finish_or_refused : {n : ℕ} {by : ℤ} → n ≡ finish_refusal r i t → (n ≡ 0 → ⊥) → by ≡ late
        → finish_or r i t late ≡ record { refusal = n; late = by; next = r }
    unfolding finish_or
    finish_or_refused {n} q z s = rw (finish_refused q z, ne_eqb n 0 z, s)

  module _ (told : Told) where
    pub look_or_refused : {n : ℕ} → n ≡ look_refusal r i t → (n ≡ 0 → ⊥) → look_or r i t told ≡ record { refusal = n; told = told; next = r }
    unfolding look_or
    look_or_refused {n} q z = rw (look_refused q z, ne_eqb n 0 z)

    pub look_or_taken : {n : ℕ} {x : Told} → n ≡ look_refusal r i t → n ≡ 0 → x ≡ told_of (choice_of (at_time r t) i)
        → look_or r i t told ≡ record { refusal = n; told = x; next = at_time r t }
    unfolding look_or
    look_or_taken q e w = rw (look_taken q e refl, e, w)

  -- every other number 0 where a release is refused: the release of document 01
  pub release_or_zeros : release_or r i t 0 (ticks 0) ≡ release_of r i t
  unfolding release_or release_of take_release refuse_release
  release_or_zeros = by_cases (eqb (release_refusal r i t) 0) (λ e. rw e) (λ e. rw (e, e))

  -- and the finish
  pub finish_or_zero : {z : ℤ} → z ≡ pos 0 → finish_or r i t z ≡ finish_of r i t
  unfolding finish_or finish_of take_finish refuse_finish
  finish_or_zero s = rw s (by_cases (eqb (finish_refusal r i t) 0) (λ e. rw e) (λ e. rw (e, e)))

  -- and the choice of its numbers, those of an idle core where it is refused
  told_idle : choice_told (look_or r i t (told_of Idle)).told ≡ (look_of r i t).choice
  unfolding look_or look_of
  told_idle = by_cases (eqb (look_refusal r i t) 0) (λ e. rw e (told_again (choice_of (at_time r t) i))) (λ e. rw (e, e))

  pub look_or_idle : {a : LookedTold} {x : Choice} → a ≡ look_or r i t (told_of Idle) → x ≡ choice_told a.told
      → ◌≡◌ {A = Looked} (record { refusal = a.refusal; choice = x; next = a.next }) (look_of r i t)
  unfolding look_or
  look_or_idle e s = rw (s, e) (ap (λ (y : Choice). record { refusal = (look_of r i t).refusal; choice = y; next = (look_of r i t).next }) told_idle)
