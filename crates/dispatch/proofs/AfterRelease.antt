-- What a release that is taken answers and leaves of the record: a run more of its task, and every other task as it was.
use Prim.Native.Nat.{ℕ, ◌-◌, ◌<◌}
use mathlib.Core.Path.{◌≡◌, refl, ap, sym, ◌∙◌}
use mathlib.Core.List.{[], ◌∷◌, ◌++◌}
use native.Mathlib.Decide.{ℕ_discrete}
use native.Mathlib.Omega.{arith}
use lib.Seq.{get_or-set_same, get_or-set_other}
use Rattle.units.specs.Units.{ticks}
use Rattle.units.specs.declared.ticks.Ticks.{Ticks}
use Rattle.planning.specs.Tasks.{task_line}
use Rattle.planning.specs.declared.Line.{Line}
use Rattle.turn.specs.declared.Turn.{Turn}
use Rattle.task_state.specs.declared.State.{State}
use Rattle.stored_runs.specs.Run.{run}
use Rattle.task_state.specs.State.{no_state, runs_of}
use Rattle.task_state.specs.Due.{release_at}
use Rattle.task_state.specs.Runs.{turn_at, due_at, with_run, taken_run}
use Rattle.task_state.specs.Tests.{release_tests}
use Rattle.state_rules.proofs.Facts.{Facts, facts}
use Rattle.task_state.proofs.Passed.{has_room}
use Rattle.dispatch.specs.declared.Record.{Record}
use Rattle.dispatch.specs.declared.call.Call.TheVariants.{Release}
use Rattle.dispatch.specs.Record.{moved}
use Rattle.dispatch.specs.Release.{release_of}
use Rattle.dispatch.specs.Shape.{Shaped, Good}
use Rattle.dispatch.specs.Calls.{call_refusal, step}
use Rattle.dispatch.specs.Given.{task_state}
use Rattle.dispatch.proofs.Passed.{Passed, release_passed}
use Rattle.dispatch.proofs.Records.{task_in, task_shaped, task_sound}
use Rattle.dispatch.proofs.Runs.{runs_more}
use Rattle.dispatch.proofs.Answers.{release_taken}
use Rattle.dispatch.proofs.OneCall.{release_no_lem}
use Rattle.dispatch.proofs.Always.{refused_same}

-- a record that is moved on for task i, from 1, keeps the states of the others
pub moved_others : (r : Record) (i j t : ℕ) (st : State) → 0 < i → 0 < j → (j ≡ i → ⊥) → task_state (moved r (i - 1) st t) j ≡ task_state r j
moved_others r i j t st a b d = get_or-set_other r.states (i - 1) (j - 1) st no_state (λ e. d (omega arith))

-- and has the new one for task i, if it is one of its tasks
pub moved_task : (r : Record) → Good r → (i : ℕ) → i - 1 < r.plan.count → (t : ℕ) (st : State) → task_state (moved r (i - 1) st t) i ≡ st
moved_task r g i h t st = get_or-set_same r.states (i - 1) st no_state (omega (arith, task_in r g (i - 1) h, g.shaped.states))

module _ (r : Record) (i : ℕ) (t : Ticks) where
  -- the task's line, its state, its turn, and the run's release time and deadline
  abbrev ln : Line
  ln = task_line r.plan i

  abbrev st : State
  st = task_state r i

  abbrev turn : Turn
  turn = turn_at ln st

  abbrev at : ℕ
  at = release_at ln st t.0

  abbrev due : ℕ
  due = due_at ln st t.0

  module _ (ok : call_refusal r (Release i t) ≡ 0) where
    -- the record moves on
    moves : step r (Release i t) ≡ moved r (i - 1) (with_run ln st at) t.0
    unfolding taken_run
    moves = ap (λ a. a.next) (release_taken r i t.0 (release_no_lem r i t) ok refl)

    -- the run's core and deadline are answered
    pub release_answered : release_of r i t.0 ≡ record { refusal = 0; core = turn.core; deadline = ticks due; next = step r (Release i t) }
    unfolding taken_run
    release_answered =
        release_taken r i t.0 (sym ok ∙ release_no_lem r i t) refl refl
        ∙ ap (λ q. record { refusal = 0; core = turn.core; deadline = ticks due; next = q }) (sym moves)

    -- every test was passed
    passed : Passed r r.plan.count i t.0 × (release_tests ln st t.0 ≡ 0)
    passed = release_passed r i t.0 (sym (release_no_lem r i t) ∙ ok)

    module _ (shaped : Shaped r) where
      -- so the record is good
      good : Good r
      good = record { shaped = shaped; sound = passed.0.sound }

      -- and the task's state sound
      sound : Facts ln st
      sound = facts ln st (task_sound r good (i - 1) passed.0.here)

      -- the task's state after it
      pub release_state : task_state (step r (Release i t)) i ≡ with_run ln st at
      release_state = ap (λ q. task_state q i) moves ∙ moved_task r good i passed.0.here t.0 (with_run ln st at)

      -- the run stands after the unfinished ones
      pub release_runs : runs_of (task_state (step r (Release i t)) i) ≡ runs_of st ++ (run turn.core due ∷ [])
      release_runs =
          ap runs_of release_state
          ∙ runs_more ln st at (task_shaped r good (i - 1) passed.0.here) (has_room ln st t.0 passed.1 sound.few)

  -- another task's state stays, refused or not
  pub release_others : (j : ℕ) → 0 < j → (j ≡ i → ⊥) → task_state (step r (Release i t)) j ≡ task_state r j
  release_others j from other = go (ℕ_discrete (call_refusal r (Release i t)) 0)
    where
      go : Dec (call_refusal r (Release i t) ≡ 0) → task_state (step r (Release i t)) j ≡ task_state r j
      go (no n) = ap (λ q. task_state q j) (refused_same r (Release i t) n)
      go (yes e) = ap (λ q. task_state q j) (moves e) ∙ moved_others r i j t.0 (with_run ln st at) (passed e).0.from from other
