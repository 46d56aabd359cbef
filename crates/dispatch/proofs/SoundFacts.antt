-- What the soundness of a record says, as facts.
use Prim.Native.Nat.{ℕ, ◌+◌, ◌≤◌, ◌<◌}
use mathlib.Core.Path.{◌≡◌}
use mathlib.Core.Bool.{true, ◌&&◌}
use native.Mathlib.Omega.{arith}
use lib.Dec.{ltb, eqb}
use borrow.Author.Tests.{eqb-true, ltb-true, leb-true, lt-ltb, le-leb}
use Rattle.units.specs.Limits.{tasks_limit, period_limit, clock_limit}
use Rattle.lists.specs.Lists.{total}
use Rattle.lists.specs.Below.{all_below}
use Rattle.lists.proofs.Tests.{by_cases, and_left, and_right, and_true}
use Rattle.lists.proofs.Below.{all_at, all_from}
use Rattle.soundness.specs.Plan.{plan_sound}
use Rattle.soundness.proofs.Facts.{tasks_few, period_small}
use Rattle.planning.specs.declared.Line.{Line}
use Rattle.task_state.specs.declared.State.{State}
use Rattle.state_rules.specs.Sound.{state_sound, runs_empty, state_empty}
use Rattle.task_state.specs.Key.{deadline_of, waits}
use Rattle.state_rules.proofs.Facts.{facts, oldest_due}
use Rattle.task_state.proofs.Waits.{waits_told}
use Rattle.dispatch.specs.declared.Record.{Record}
use Rattle.dispatch.specs.Record.{line_at, state_at}
use Rattle.dispatch.specs.Sound.{clock_in, state_ok, sound_of}

-- its clock, its plan and its states
pub record SoundFacts (r : Record) : Type 0 where
  pub clock : r.clock.0 ≤ clock_limit
  pub plan : plan_sound r.plan ≡ true
  pub states : (i : ℕ) → i < tasks_limit → state_ok r.plan r.states i ≡ true

-- soundness says them
pub sound_facts : (r : Record) → sound_of r ≡ true → SoundFacts r
unfolding sound_of
sound_facts r e =
    let a = clock_in r in
    let b = plan_sound r.plan in
    let c = all_below tasks_limit (state_ok r.plan r.states) in
    let ab = and_left (a && b) c e in
    record {
      clock = leb-true r.clock.0 clock_limit (and_left a b ab);
      plan = and_right a b ab;
      states = λ i h. all_at tasks_limit i (state_ok r.plan r.states) h (and_right (a && b) c e);
    }

-- and they say it
pub sound : (r : Record) → SoundFacts r → sound_of r ≡ true
unfolding sound_of
sound r h =
    let a = clock_in r in
    let b = plan_sound r.plan in
    let c = all_below tasks_limit (state_ok r.plan r.states) in
    and_true (a && b) c
    (and_true a b (le-leb r.clock.0 clock_limit h.clock) h.plan)
    (all_from tasks_limit (state_ok r.plan r.states) h.states)

-- an empty state waits on no core
empty_waits : (ln : Line) (st : State) (k x : ℕ) → state_empty st ≡ true → waits ln st k x ≡ true → ⊥
empty_waits ln st k x e w =
    let a = eqb (total st.counts) 0 && eqb st.place 0 && eqb st.last.0 0 && eqb st.had 0 in
    let b = eqb st.live 0 in
    let none = eqb-true st.live 0 (and_right a b (and_left (a && b) (runs_empty st) e)) in
    omega (arith, none, (waits_told ln st k x w).unfinished)

module _ (r : Record) (s : SoundFacts r) (i : ℕ) where
  module _ (h : i < r.plan.count) where
    -- a task's number is below the limit
    pub task_below : i < tasks_limit
    task_below = omega (arith, tasks_few r.plan s.plan)

    -- its state is sound
    pub state_sound_lem : state_sound (line_at r i) (state_at r i) ≡ true
    state_sound_lem = rw (lt-ltb i r.plan.count h) at (s.states i task_below)

    -- and the deadline of its oldest run is small
    pub due_small : deadline_of (state_at r i) ≤ clock_limit + period_limit
    due_small = omega (arith, oldest_due (line_at r i) (state_at r i) (facts (line_at r i) (state_at r i) state_sound_lem), period_small r.plan s.plan i h)

  module _ (k : ℕ) (l : i < tasks_limit) (w : waits (line_at r i) (state_at r i) k r.clock.0 ≡ true) where
    -- a task that waits on a core is one of the N tasks
    pub waits_in : i < r.plan.count
    waits_in =
        by_cases (ltb i r.plan.count)
        (λ e. ltb-true i r.plan.count e)
        (λ e. absurd (empty_waits (line_at r i) (state_at r i) k r.clock.0 (rw e at (s.states i l)) w))
