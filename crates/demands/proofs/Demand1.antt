-- Demand 1 over the calls: any calls, in any order, with any numbers. Tasks and cores are counted from 1; a call that is accepted has refusal 0.
use Prim.Native.Nat.{ℕ, ◌+◌, ◌-◌, ◌≤◌, ◌<◌}
use mathlib.Core.Path.{◌≡◌, refl, sym, ap, ◌∙◌}
use mathlib.Core.Logic.{◌↔◌}
use mathlib.Core.List.{List, [], ◌∷◌, ◌++◌}
use lib.IntN.{pos, sub_ℕ}
use lib.Dec.{ltb}
use lib.ListN.{replicate, get_or-replicate, get_or-eq_default}
use borrow.Author.Tests.{ltb-true, ltb-false, ne_eqb}
use Rattle.lists.proofs.Tests.{by_cases}
use Rattle.lists.specs.Lists.{zeros}
use Rattle.units.specs.Units.{ticks}
use Rattle.units.specs.Refusals.{refusal}
use Rattle.units.specs.declared.ticks.Ticks.{Ticks}
use Rattle.planning.specs.Plan.{line, empty_line, empty_plan}
use Rattle.planning.specs.Tasks.{task_line}
use Rattle.task_state.specs.declared.State.{State}
use Rattle.stored_runs.specs.Run.{run}
use Rattle.task_state.specs.State.{run_at, runs_of, fresh_state, no_state}
use Rattle.task_state.specs.Due.{release_at}
use Rattle.task_state.specs.Runs.{turn_at, with_run, without_run}
use Rattle.turn.specs.declared.Turn.{Turn}
use Rattle.dispatch.specs.declared.Record.{Record}
use Rattle.core_choice.specs.declared.Choice.TheVariants.{Idle}
use Rattle.dispatch.specs.declared.call.Call.{Call}
use Rattle.dispatch.specs.declared.call.Call.TheVariants.{Release, Finish, Look}
use Rattle.dispatch.specs.Calls.Answer.{Refused}
use Rattle.dispatch.specs.Record.{record_of, fresh_of}
use Rattle.dispatch.specs.Release.{release_of}
use Rattle.dispatch.specs.Finish.{finish_of}
use Rattle.dispatch.specs.Look.{choice_of, look_of}
use Rattle.dispatch.specs.Shape.{Shaped, Good}
use Rattle.dispatch.specs.Calls.{answered_of, time_of, call_refusal, step, after}
use Rattle.dispatch.specs.Given.{task_state, Given}
use Rattle.dispatch.proofs.Answers.{release_refused, finish_refused, look_refused, look_taken}
use Rattle.dispatch.proofs.OneCall.{release_no_lem, finish_no_lem, look_no}
use Rattle.dispatch.proofs.Exactly.{exactly}
use Rattle.dispatch.proofs.Always.{always_good, refused_same, accepted_clock, clock_rises, step_plan, plan_same}
use Rattle.dispatch.proofs.AfterRelease.{release_answered, release_state, release_runs, release_others}
use Rattle.dispatch.proofs.AfterFinish.{finish_answered, finish_state, finish_runs, finish_others}
use Rattle.dispatch.proofs.Never.{never_15, never_9}
use Rattle.dispatch.proofs.Refused.{refused_empty, refused_unsound, unsound_15, unsound_stays}
use Rattle.dispatch.proofs.Started.{started}

-- each number is given exactly in its case of document 01's table, and none exactly if no case applies, whatever the record
pub given_exactly : (r : Record) (c : Call) (n : ℕ) → (call_refusal r c ≡ n) ↔ Given r c n
given_exactly = exactly

-- 9 is given to no call on any record
pub never_nine : (r : Record) (c : Call) → call_refusal r c ≡ 9 → ⊥
never_nine = never_9

-- so no two cases apply
pub given_once : (r : Record) (c : Call) {n n' : ℕ} → Given r c n → Given r c n' → n ≡ n'
given_once r c {n} {n'} g g' = sym ((exactly r c n).1 g) ∙ (exactly r c n').1 g'

-- a call that is refused by n answers n, every other number 0, and hands back the very record it was given, whatever the record
module _ (r : Record) (i : ℕ) (t : Ticks) (n : ℕ) (some : n ≡ 0 → ⊥) where
  pub refused_release : call_refusal r (Release i t) ≡ n → release_of r i t.0 ≡ record { refusal = n; core = 0; deadline = ticks 0; next = r }
  refused_release e = release_refused r i t.0 (sym e ∙ release_no_lem r i t) some

  pub refused_finish : call_refusal r (Finish i t) ≡ n → finish_of r i t.0 ≡ record { refusal = n; late = pos 0; next = r }
  refused_finish e = finish_refused r i t.0 (sym e ∙ finish_no_lem r i t) some

  pub refused_look : call_refusal r (Look i t) ≡ n → look_of r i t.0 ≡ record { refusal = n; choice = Idle; next = r }
  refused_look e = look_refused r i t.0 (sym e ∙ look_no r i t) some

-- as a value it names no task
pub refused_call : (r : Record) (c : Call) (n : ℕ) → (n ≡ 0 → ⊥) → call_refusal r c ≡ n → answered_of r c ≡ record { answer = Refused (refusal n 0); next = r }
refused_call r (Release i t) n some e = rw (answered_of, refused_release r i t n some e, ne_eqb n 0 some)
refused_call r (Finish i t) n some e = rw (answered_of, refused_finish r i t n some e, ne_eqb n 0 some)
refused_call r (Look k t) n some e = rw (answered_of, refused_look r k t n some e, ne_eqb n 0 some)

-- so it changes nothing
pub refused_changes_nothing : (r : Record) (c : Call) → (call_refusal r c ≡ 0 → ⊥) → step r c ≡ r
refused_changes_nothing = refused_same

-- an accepted call sets the clock to its time, and the clock never falls
pub clock_follows : (r : Record) (c : Call) → call_refusal r c ≡ 0 → (step r c).clock.0 ≡ time_of c
clock_follows = accepted_clock

pub clock_never_falls : (r : Record) (cs : List Call) → r.clock.0 ≤ (after r cs).clock.0
clock_never_falls = clock_rises

-- no call changes the plan, and a release or a finish changes no other task's state
pub plan_never_changes : (r : Record) (c : Call) → (step r c).plan ≡ r.plan
plan_never_changes = step_plan

pub others_stay : (r : Record) (i : ℕ) (t : Ticks) (j : ℕ) → 0 < j → (j ≡ i → ⊥)
    → (task_state (step r (Release i t)) j ≡ task_state r j) × (task_state (step r (Finish i t)) j ≡ task_state r j)
others_stay r i t j from other = (release_others r i t j from other, finish_others r i t j from other)

module _ (r : Record) (i : ℕ) (t : Ticks) where
  -- task i before the call
  abbrev before : State
  before = task_state r i

  -- its turn, the release time of a run whose release is called now (Early), and the run's deadline, release time plus T
  abbrev turn : Turn
  turn = turn_at (task_line r.plan i) before

  abbrev at : ℕ
  at = release_at (task_line r.plan i) before t.0

  abbrev due : ℕ
  due = at + (task_line r.plan i).period.0

  module _ (ok : call_refusal r (Release i t) ≡ 0) where
    -- task i after a release that is accepted
    abbrev released : State
    released = task_state (step r (Release i t)) i

    -- release answers the run's core, which is the turn rule's (Runs), and its deadline, release time plus T
    pub release_answers : release_of r i t.0 ≡ record { refusal = 0; core = turn.core; deadline = ticks due; next = step r (Release i t) }
    release_answers = release_answered r i t ok

    -- the run stands after the task's unfinished ones
    pub release_adds : Shaped r → runs_of released ≡ runs_of before ++ (run turn.core due ∷ [])
    release_adds shaped = release_runs r i t ok shaped

    -- its release time is the task's last one, and its turn is counted
    pub release_counts : Shaped r
        → (released.last ≡ ticks at) × (released.had ≡ 1) × (released.counts ≡ turn.counts) × (released.place ≡ turn.place)
    unfolding with_run
    release_counts shaped =
        let e = release_state r i t ok shaped in
        (ap (λ (st : State). st.last) e, ap (λ (st : State). st.had) e, ap (λ (st : State). st.counts) e, ap (λ (st : State). st.place) e)

  module _ (ok : call_refusal r (Finish i t) ≡ 0) where
    -- task i after a finish that is accepted
    abbrev finished : State
    finished = task_state (step r (Finish i t)) i

    -- finish answers the time less the deadline of the task's oldest unfinished run
    pub finish_answers : finish_of r i t.0 ≡ record { refusal = 0; late = sub_ℕ t.0 (run_at before 0).deadline.0; next = step r (Finish i t) }
    finish_answers = finish_answered r i t ok

    -- and ends that run
    pub finish_ends : Shaped r → runs_of before ≡ run_at before 0 ∷ runs_of finished
    finish_ends shaped = finish_runs r i t ok shaped

    -- the rest stays
    pub finish_keeps : Shaped r
        → (finished.last ≡ before.last) × (finished.had ≡ before.had) × (finished.counts ≡ before.counts) × (finished.place ≡ before.place)
    unfolding without_run
    finish_keeps shaped =
        let e = finish_state r i t ok shaped in
        (ap (λ (st : State). st.last) e, ap (λ (st : State). st.had) e, ap (λ (st : State). st.counts) e, ap (λ (st : State). st.place) e)

-- look answers the core's choice in the record with its clock set, and only the clock moves on
pub look_answers : (r : Record) (k : ℕ) (t : Ticks) → call_refusal r (Look k t) ≡ 0
    → let now : Record = record { plan = r.plan; clock = t; states = r.states } in
    look_of r k t.0 ≡ record { refusal = 0; choice = choice_of now k; next = now }
look_answers r k t ok = look_taken r k t.0 (sym ok ∙ look_no r k t) refl refl

-- a core count m and a list xs, and the record that planning hands on
module _ (m : ℕ) (xs : List ℕ) where
  abbrev fresh : Record
  fresh = (fresh_of m xs).next

  -- it has clock 0, no runs and no release
  pub starts_fresh : (fresh.clock.0 ≡ 0) × ((i : ℕ) → (runs_of (task_state fresh i) ≡ []) × ((task_state fresh i).had ≡ 0))
  unfolding fresh_of record_of fresh_state
  starts_fresh = (
    refl,
    λ i. by_cases (ltb (i - 1) 64)
        (λ e. rw (get_or-replicate 64 (i - 1) fresh_state no_state (ltb-true (i - 1) 64 e)) (refl, refl))
        (λ e. rw (get_or-eq_default (replicate 64 fresh_state) no_state {n = i - 1} (ltb-false (i - 1) 64 e)) (refl, refl)),
  )

  module _ (refused : (fresh_of m xs).refusal.no ≡ 0 → ⊥) where
    -- of a refused list it is the empty record, all numbers 0
    pub refused_list : fresh ≡ record {
      plan = record { cores = 0; common = 0; count = 0; lines = replicate 64 (line 0 0 0 (zeros 16)) };
      clock = ticks 0;
      states = replicate 64 (record { last = ticks 0; deadlines = replicate 8 (ticks 0); counts = zeros 16; place = 0; cores = zeros 8; live = 0; had = 0 });
    }
    unfolding record_of empty_plan empty_line fresh_state
    refused_list = refused_empty m xs refused

    -- which every later call refuses by 15
    pub refused_list_15 : (cs : List Call) (c : Call) → call_refusal (after fresh cs) c ≡ 15
    refused_list_15 cs c = let u = refused_unsound m xs refused in rw (unsound_stays fresh u cs) (unsound_15 fresh u c)

  module _ (ok : (fresh_of m xs).refusal.no ≡ 0) (cs : List Call) where
    -- of an accepted list it stays sound over any calls
    pub stays_sound : Good (after fresh cs)
    unfolding fresh_of
    stays_sound = always_good fresh cs (started m xs ok)

    -- so 15 is never given again
    pub never_unsound : (c : Call) → call_refusal (after fresh cs) c ≡ 15 → ⊥
    unfolding fresh_of
    never_unsound c = never_15 fresh cs c (started m xs ok)

    -- and the plan stays as it was drawn
    pub plan_stays : (after fresh cs).plan ≡ fresh.plan
    plan_stays = plan_same fresh cs
