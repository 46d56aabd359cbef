-- Document 02, R-2: an early release is taken and held. Tasks and cores are counted from 1, stored runs from 0, the oldest first.
use Prim.Native.Nat.{ℕ, suc, ◌+◌, ◌-◌, ◌≤◌, ◌<◌}
use mathlib.Core.Path.{◌≡◌, refl, subst}
use mathlib.Core.Logic.{⊎_elim}
use mathlib.Core.List.{List, [], ◌∷◌}
use native.Mathlib.Omega.{arith}
use lib.IntN.{negsuc}
use lib.ListN.{length, get_or}
use Rattle.units.specs.Units.{ticks}
use Rattle.units.specs.Refusals.{refusal}
use Rattle.units.specs.declared.ticks.Ticks.{Ticks}
use Rattle.admission.specs.Words.{tasks}
use Rattle.planning.specs.declared.Line.{Line}
use Rattle.planning.specs.Plan.{plan_of}
use Rattle.planning.specs.Tasks.{task_line}
use Rattle.task_state.specs.declared.State.{State}
use Rattle.task_state.specs.State.{run_at}
use Rattle.task_state.specs.Due.{release_at}
use Rattle.task_state.specs.Runs.{turn_at}
use Rattle.core_choice.specs.declared.Side.TheVariants.{Upper}
use Rattle.core_choice.specs.declared.Choice.{Choice}
use Rattle.core_choice.specs.declared.Choice.TheVariants.{Idle, Mover}
use Rattle.core_choice.specs.Told.{choice_kind, choice_task}
use Rattle.dispatch.specs.declared.Record.{Record}
use Rattle.dispatch.specs.declared.call.Call.{Call}
use Rattle.dispatch.specs.declared.call.Call.TheVariants.{Release, Finish, Look}
use Rattle.dispatch.specs.Calls.Answer.{Refused, Released, Finished, Looked}
use Rattle.dispatch.specs.Record.{record_of, fresh_of}
use Rattle.dispatch.specs.Release.{release_of}
use Rattle.dispatch.specs.Shape.{Good}
use Rattle.dispatch.specs.Calls.{answered_of, call_refusal, step, after, answers_of}
use Rattle.dispatch.specs.Given.{here, past, task_state, Over, next_release, Early, oldest_release, Given}
use Rattle.dispatch.proofs.ReleaseTime.{held_until, at_once}
use Rattle.dispatch.proofs.AfterRelease.{release_answered}
use Rattle.dispatch.proofs.Exactly.{exactly}
use Rattle.dispatch.proofs.Choice.{look_exactly}
use Rattle.dispatch.proofs.Values.{chosen_told}
use Rattle.dispatch.proofs.Started.{started}
use Rattle.release_order.specs.Releases.{Came, came_of, times_of, FromFirst}
use Rattle.release_order.proofs.FromPlan as FromPlan
use Rattle.release_order.proofs.Example.{defs}
use Rattle.demands.proofs.Beneath.Drawn.{drawn_task}

-- any record; a release of task i that is called at time t
module _ (r : Record) (i : ℕ) (t : Ticks) where
  -- the task's line, and the release time
  abbrev ln : Line
  ln = task_line r.plan i

  abbrev at : ℕ
  at = release_at ln (task_state r i) t.0

  -- where it comes early, less than T after the task's last release time, it is that time plus T
  pub early_held : Early r i t → at ≡ next_release r i
  early_held = held_until r i t

  -- where it does not, it is the call's time
  pub in_time : (Early r i t → ⊥) → at ≡ t.0
  in_time = at_once r i t

  -- the answer to an accepted release whose run is due at d
  abbrev Answers : ℕ → Type 0
  Answers d = release_of r i t.0 ≡ record { refusal = 0; core = (turn_at ln (task_state r i)).core; deadline = ticks d; next = step r (Release i t) }

  module _ (ok : call_refusal r (Release i t) ≡ 0) where
    -- one that comes early answers the held release time plus T
    pub early_answers : Early r i t → Answers (next_release r i + ln.period.0)
    early_answers p = subst (λ (x : ℕ). Answers (x + ln.period.0)) (early_held p) (release_answered r i t ok)

    -- one that does not answers what document 01 says: its time plus T
    pub in_time_answers : (Early r i t → ⊥) → Answers (t.0 + ln.period.0)
    in_time_answers n = subst (λ (x : ℕ). Answers (x + ln.period.0)) (in_time n) (release_answered r i t ok)

  -- and is refused by 12 for its time alone
  pub in_time_12 : (Early r i t → ⊥) → call_refusal r (Release i t) ≡ 12 → Over t
  in_time_12 n e = by_row ((exactly r (Release i t) 12).0 e)
    where
      by_row : Given r (Release i t) 12 → Over t
      by_row (past a (past b (here o))) = o
      by_row (past a (past b (past c (past d (here h))))) = absurd (n h.0)
      by_row (past a (past b (past c (past d (past h (past f e)))))) = absurd (omega arith)

-- a run is no core's choice before its release time; from then on the choice is as document 01 says (Runs, `look-answers`)
pub never_chosen_early : (r : Record) → Good r → (k : ℕ) (t : Ticks) → call_refusal r (Look k t) ≡ 0 → (x : Choice)
    → (answered_of r (Look k t)).answer ≡ Looked x → (choice_kind x ≡ 0 → ⊥) → oldest_release r (choice_task x) ≤ t.0
never_chosen_early r g k t ok x e some =
    ⊎_elim (λ none. absurd (some none.0)) (λ first. first.0.0.released) (chosen_told ((look_exactly r g k t ok x).0 e))

-- a list m, xs that is taken, one of its tasks i, and any calls cs on its fresh record
module _ (m : ℕ) (xs : List ℕ) (ok : (fresh_of m xs).refusal.no ≡ 0) (i : ℕ) (from : 1 ≤ i) (to : i ≤ tasks xs) (cs : List Call) where
  -- its period
  abbrev T : ℕ
  T = (task_line (fresh_of m xs).next.plan i).period.0

  -- its accepted releases, in order, and their release times
  abbrev came : List Came
  came = came_of i (fresh_of m xs).next cs

  abbrev ts : List ℕ
  ts = times_of came

  -- the first is released at its call's time, each other at its call's time or T after the last one, where that is later
  pub release_times : FromFirst T came
  unfolding fresh_of record_of
  release_times = FromPlan.release_times (plan_of m xs).plan (started m xs ok) i from (drawn_task m xs ok i to) cs

  -- so release times lie at least T apart
  pub releases_apart : (c : ℕ) → suc c < length ts → get_or ts c 0 + T ≤ get_or ts (suc c) 0
  unfolding fresh_of record_of
  releases_apart = FromPlan.releases_apart (plan_of m xs).plan (started m xs ok) i from (drawn_task m xs ok i to) cs

  -- the task after the calls; the deadline of its stored run number k, and its release time
  abbrev st : State
  st = task_state (after (fresh_of m xs).next cs) i

  abbrev deadline : ℕ → ℕ
  deadline k = (run_at st k).deadline.0

  abbrev released : ℕ → ℕ
  released k = deadline k - T

  -- stored runs stand in the order of their release times, and their deadlines rise by at least T
  pub stored_in_order : (k : ℕ) → suc k < st.live → (released k + T ≤ released (suc k)) × (deadline k + T ≤ deadline (suc k))
  unfolding fresh_of record_of
  stored_in_order k l =
      let o = FromPlan.runs_in_order (plan_of m xs).plan (started m xs ok) i from (drawn_task m xs ok i to) cs in
      let d = o.rise k l in
      (omega (arith, d, o.long k (omega arith)), d)

-- the request's example, three of 2 3 on 2 cores: a release at 2, a tick early, is held until 3; at 2 it is neither finished nor chosen, at 3 it is chosen
pub held_until_3 : answers_of (fresh_of 2 (2 ∷ 3 ∷ 2 ∷ 3 ∷ 2 ∷ 3 ∷ [])).next
    (Release 3 (ticks 0)
    ∷ Release 3 (ticks 2)
    ∷ Finish 3 (ticks 2)
    ∷ Finish 3 (ticks 2)
    ∷ Look 2 (ticks 2)
    ∷ Look 2 (ticks 3)
    ∷ [])
    ≡ Released 1 (ticks 3)
    ∷ Released 2 (ticks 6)
    ∷ Finished (negsuc 0)
    ∷ Refused (refusal 11 0)
    ∷ Looked Idle
    ∷ Looked (Mover 3 (ticks 6) Upper)
    ∷ []
unfolding defs
held_until_3 = refl
