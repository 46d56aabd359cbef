-- What a call does to one task of a good record: a run more, its oldest ended, or nothing.
use Prim.Native.Nat.{ℕ, ◌-◌, ◌<◌}
use mathlib.Core.Path.{◌≡◌, refl, sym, ap, ◌∙◌}
use mathlib.Core.List.{List, [], ◌∷◌}
use native.Mathlib.Decide.{ℕ_discrete}
use native.Mathlib.Omega.{arith}
use borrow.Author.Tests.{eq-eqb, ne_eqb}
use Rattle.units.specs.declared.ticks.Ticks.{Ticks}
use Rattle.planning.specs.declared.Line.{Line}
use Rattle.planning.specs.Tasks.{task_line}
use Rattle.task_state.specs.declared.State.{State}
use Rattle.task_state.specs.Due.{release_at}
use Rattle.task_state.specs.Runs.{due_at, with_run, without_run}
use Rattle.task_state.specs.Tests.{release_tests}
use Rattle.task_state.proofs.Passed.{has_run}
use Rattle.dispatch.specs.declared.Record.{Record}
use Rattle.dispatch.specs.declared.call.Call.{Call}
use Rattle.dispatch.specs.declared.call.Call.TheVariants.{Release, Finish, Look}
use Rattle.dispatch.specs.Look.{Looked}
use Rattle.dispatch.specs.Shape.{Good}
use Rattle.dispatch.specs.Calls.{answered_of, call_refusal, step}
use Rattle.dispatch.specs.Given.{task_state}
use Rattle.dispatch.proofs.AfterRelease.{release_answered, release_state, release_others}
use Rattle.dispatch.proofs.AfterFinish.{finish_state, finish_others}
use Rattle.dispatch.proofs.Always.{refused_same}
use Rattle.dispatch.proofs.Answers.{release_refused, look_taken}
use Rattle.dispatch.proofs.OneCall.{release_no_lem, finish_no_lem, look_no}
use Rattle.dispatch.proofs.Passed.{release_passed, finish_passed}
use Rattle.release_order.specs.Releases.{Came, came_by}

-- an accepted release
abbrev pub one : ℕ → ℕ → List Came
one t x = record { called = t; released = x } ∷ []

module _ (i : ℕ) (r : Record) where
  -- the task's line and its state
  abbrev ln : Line
  ln = task_line r.plan i

  abbrev st : State
  st = task_state r i

  -- what call c does to the task
  pub data Touched (c : Call) : Type 0 where
    stays : came_by i r c ≡ [] → task_state (step r c) i ≡ st → Touched c
    comes : (t : ℕ) → came_by i r c ≡ one t (release_at ln st t) → release_tests ln st t ≡ 0
        → task_state (step r c) i ≡ with_run ln st (release_at ln st t) → Touched c
    ends : came_by i r c ≡ [] → 0 < st.live → task_state (step r c) i ≡ without_run st → Touched c

  -- a refused call does nothing
  refused : (c : Call) → (call_refusal r c ≡ 0 → ⊥) → task_state (step r c) i ≡ st
  refused c n = ap (λ (q : Record). task_state q i) (refused_same r c n)

  module _ (t : Ticks) where
    -- an accepted release of the task is told with its release time
    came : call_refusal r (Release i t) ≡ 0 → came_by i r (Release i t) ≡ one t.0 (release_at ln st t.0)
    came ok =
        let back : due_at ln st t.0 - ln.period.0 ≡ release_at ln st t.0 = omega arith in
        rw (eq-eqb i i refl, answered_of, release_answered r i t ok)
        (ap (one t.0) back)

    -- a refused one is not
    came_not : (call_refusal r (Release i t) ≡ 0 → ⊥) → came_by i r (Release i t) ≡ []
    came_not n =
        let no = call_refusal r (Release i t) in
        rw (eq-eqb i i refl, answered_of, release_refused r i t.0 (release_no_lem r i t) n, ne_eqb no 0 n)

  -- a release
  release_touches : Good r → 0 < i → (j : ℕ) (t : Ticks) → Touched (Release j t)
  release_touches g from j t = go (ℕ_discrete i j) (ℕ_discrete (call_refusal r (Release i t)) 0)
    where
      go : Dec (i ≡ j) → Dec (call_refusal r (Release i t) ≡ 0) → Touched (Release j t)
      go (no d) a = stays (rw (ne_eqb j i (λ e. d (sym e)))) (release_others r j t i from d)
      go (yes e) (no n) = rw (← e) (stays (came_not t n) (refused (Release i t) n))
      go (yes e) (yes ok) =
          let p = release_passed r i t.0 (sym (release_no_lem r i t) ∙ ok) in
          rw (← e) (comes t.0 (came t ok) p.1 (release_state r i t ok g.shaped))

  -- a finish
  finish_touches : Good r → 0 < i → (j : ℕ) (t : Ticks) → Touched (Finish j t)
  finish_touches g from j t = go (ℕ_discrete i j) (ℕ_discrete (call_refusal r (Finish i t)) 0)
    where
      go : Dec (i ≡ j) → Dec (call_refusal r (Finish i t) ≡ 0) → Touched (Finish j t)
      go (no d) a = stays refl (finish_others r j t i from d)
      go (yes e) (no n) = rw (← e) (stays refl (refused (Finish i t) n))
      go (yes e) (yes ok) =
          let p = finish_passed r i t.0 (sym (finish_no_lem r i t) ∙ ok) in
          rw (← e) (ends refl (has_run ln st t.0 p.1) (finish_state r i t ok g.shaped))

  -- a look
  look_touches : (k : ℕ) (t : Ticks) → Touched (Look k t)
  look_touches k t = go (ℕ_discrete (call_refusal r (Look k t)) 0)
    where
      go : Dec (call_refusal r (Look k t) ≡ 0) → Touched (Look k t)
      go (no n) = stays refl (refused (Look k t) n)
      go (yes e) = stays refl (ap (λ (a : Looked). task_state a.next i) (look_taken r k t.0 (look_no r k t) e refl))

  -- every call
  pub touched : Good r → 0 < i → (c : Call) → Touched c
  touched g from (Release j t) = release_touches g from j t
  touched g from (Finish j t) = finish_touches g from j t
  touched g from (Look k t) = look_touches k t
