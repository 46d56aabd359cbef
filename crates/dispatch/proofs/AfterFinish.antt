-- What a finish that is taken answers and leaves of the record: its task without the oldest run, and every other task as it was.
use Prim.Native.Nat.{ℕ, ◌-◌, ◌<◌}
use mathlib.Core.Path.{◌≡◌, refl, ap, sym, ◌∙◌}
use mathlib.Core.List.{◌∷◌}
use native.Mathlib.Decide.{ℕ_discrete}
use lib.IntN.{ℤ, sub_ℕ}
use Rattle.units.specs.declared.ticks.Ticks.{Ticks}
use Rattle.planning.specs.Tasks.{task_line}
use Rattle.task_state.specs.declared.State.{State}
use Rattle.task_state.specs.State.{run_at, runs_of}
use Rattle.task_state.specs.Runs.{without_run}
use Rattle.task_state.specs.Tests.{finish_tests}
use Rattle.task_state.proofs.Passed.{has_run}
use Rattle.dispatch.specs.declared.Record.{Record}
use Rattle.dispatch.specs.declared.call.Call.TheVariants.{Finish}
use Rattle.dispatch.specs.Record.{moved}
use Rattle.dispatch.specs.Finish.{finish_of}
use Rattle.dispatch.specs.Shape.{Shaped}
use Rattle.dispatch.specs.Calls.{call_refusal, step}
use Rattle.dispatch.specs.Given.{task_state}
use Rattle.dispatch.proofs.Passed.{Passed, finish_passed}
use Rattle.dispatch.proofs.Runs.{runs_less}
use Rattle.dispatch.proofs.Answers.{finish_taken}
use Rattle.dispatch.proofs.OneCall.{finish_no_lem}
use Rattle.dispatch.proofs.Always.{refused_same}
use Rattle.dispatch.proofs.AfterRelease.{moved_others, moved_task}

module _ (r : Record) (i : ℕ) (t : Ticks) where
  -- the task's state, and the time less the deadline of its oldest run
  abbrev st : State
  st = task_state r i

  abbrev late : ℤ
  late = sub_ℕ t.0 (run_at st 0).deadline.0

  module _ (ok : call_refusal r (Finish i t) ≡ 0) where
    -- the record moves on
    moves : step r (Finish i t) ≡ moved r (i - 1) (without_run st) t.0
    moves = ap (λ a. a.next) (finish_taken r i t.0 (finish_no_lem r i t) ok refl refl)

    -- the time less the deadline is answered
    pub finish_answered : finish_of r i t.0 ≡ record { refusal = 0; late = late; next = step r (Finish i t) }
    finish_answered =
        finish_taken r i t.0 (sym ok ∙ finish_no_lem r i t) refl refl refl
        ∙ ap (λ q. record { refusal = 0; late = late; next = q }) (sym moves)

    -- every test was passed
    passed : Passed r r.plan.count i t.0 × (finish_tests (task_line r.plan i) st t.0 ≡ 0)
    passed = finish_passed r i t.0 (sym (finish_no_lem r i t) ∙ ok)

    module _ (shaped : Shaped r) where
      -- the task's state after it
      pub finish_state : task_state (step r (Finish i t)) i ≡ without_run st
      finish_state =
          ap (λ q. task_state q i) moves
          ∙ moved_task r (record { shaped = shaped; sound = passed.0.sound }) i passed.0.here t.0 (without_run st)

      -- the oldest of the unfinished runs is ended
      pub finish_runs : runs_of st ≡ run_at st 0 ∷ runs_of (task_state (step r (Finish i t)) i)
      finish_runs = runs_less st (has_run (task_line r.plan i) st t.0 passed.1) ∙ ap (λ q. run_at st 0 ∷ runs_of q) (sym finish_state)

  -- another task's state stays, refused or not
  pub finish_others : (j : ℕ) → 0 < j → (j ≡ i → ⊥) → task_state (step r (Finish i t)) j ≡ task_state r j
  finish_others j from other = go (ℕ_discrete (call_refusal r (Finish i t)) 0)
    where
      go : Dec (call_refusal r (Finish i t) ≡ 0) → task_state (step r (Finish i t)) j ≡ task_state r j
      go (no n) = ap (λ q. task_state q j) (refused_same r (Finish i t) n)
      go (yes e) = ap (λ q. task_state q j) (moves e) ∙ moved_others r i j t.0 (without_run st) (passed e).0.from from other
