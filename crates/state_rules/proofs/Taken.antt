-- A task's state after one run more is sound.
use Prim.Native.Nat.{ℕ, ◌+◌, ◌≤◌, ◌<◌}
use mathlib.Core.Path.{◌≡◌, refl, ◌∙◌}
use mathlib.Core.Bool.{true}
use native.Mathlib.Decide.{ℕ_discrete}
use native.Mathlib.Omega.{arith}
use borrow.Author.Tests.{ltb-true, lt-ltb}
use lib.Dec.{ltb}
use lib.ListN.{length, length-set}
use lib.Seq.{get_or-set_same, get_or-set_other}
use Rattle.units.specs.Limits.{cores_limit, clock_limit, runs_limit}
use Rattle.units.specs.Units.{ticks}
use Rattle.lists.proofs.Tests.{same_bool}
use Rattle.planning.specs.declared.Line.{Line}
use Rattle.planning.specs.Plan.{row_of}
use Rattle.turn.specs.Inner.{Turnable}
use Rattle.turn.proofs.Keeps.{Kept, turn_keeps}
use Rattle.task_state.specs.declared.State.{State}
use Rattle.stored_runs.specs.Run.{run}
use Rattle.state_rules.specs.Sound.{run_rule, state_sound}
use Rattle.task_state.specs.Runs.{turn_at, with_run}
use Rattle.state_rules.proofs.RunFacts.{from_run_facts}
use Rattle.state_rules.proofs.Facts.{facts, from_facts}
use Rattle.task_state.specs.Shape.{Shaped}

-- below one more is below, but for the last
below_more : (k n : ℕ) → (k ≡ n → ⊥) → ltb k (n + 1) ≡ ltb k n
below_more k n h =
    same_bool (ltb k (n + 1)) (ltb k n)
    (λ e. lt-ltb k n (omega (arith, ltb-true k (n + 1) e)))
    (λ e. lt-ltb k (n + 1) (omega (arith, ltb-true k n e)))

module _
    (ln : Line)
    (st : State)
    (t : ℕ)
    (wide : length (row_of ln) ≡ cores_limit)
    (shaped : Shaped st)
    (turn : Turnable ln.weight.0 st.place (row_of ln) st.counts) where
  -- the turn's core, counts and place are sound
  kept : Kept ln.weight.0 (row_of ln) (turn_at ln st)
  kept = turn_keeps ln.weight.0 st.place (row_of ln) st.counts turn wide shaped.counts

  -- the lengths stay
  pub with_shaped : Shaped (with_run ln st t)
  unfolding with_run
  with_shaped = record {
    deadlines = length-set st.deadlines st.live (ticks (t + ln.period.0)) ∙ shaped.deadlines;
    counts = kept.long;
    cores = length-set st.cores st.live (turn_at ln st).core ∙ shaped.cores;
  }

  module _ (room : st.live < runs_limit) (time : t ≤ clock_limit) (sound : state_sound ln st ≡ true) where
    -- the new run is sound
    with_new : run_rule ln (with_run ln st t) st.live ≡ true
    unfolding with_run
    with_new =
        let due = t + ln.period.0 in
        rw (
          lt-ltb st.live (st.live + 1) (omega arith),
          get_or-set_same st.cores st.live (turn_at ln st).core 0 (omega (arith, shaped.cores)),
          get_or-set_same st.deadlines st.live (ticks due) (ticks 0) (omega (arith, shaped.deadlines)),
        )
        (from_run_facts ln (run (turn_at ln st).core due) (record { from = kept.from; to = kept.to; share = kept.share; due = omega arith }))

    -- the others stand as they did
    with_others : (k : ℕ) → (k ≡ st.live → ⊥) → k < runs_limit → run_rule ln (with_run ln st t) k ≡ true
    unfolding with_run
    with_others k n l =
        rw (
          below_more k st.live n,
          get_or-set_other st.cores st.live k (turn_at ln st).core 0 n,
          get_or-set_other st.deadlines st.live k (ticks (t + ln.period.0)) (ticks 0) n,
        )
        ((facts ln st sound).rules k l)

    -- so each keeps its rule
    with_rules : (k : ℕ) → k < runs_limit → run_rule ln (with_run ln st t) k ≡ true
    with_rules k l = go (ℕ_discrete k st.live)
      where
        go : Dec (k ≡ st.live) → run_rule ln (with_run ln st t) k ≡ true
        go (yes e) = rw e with_new
        go (no n) = with_others k n l

    -- and the state is sound
    pub with_sound : state_sound ln (with_run ln st t) ≡ true
    unfolding with_run
    with_sound =
        from_facts ln (with_run ln st t) (record {
          few = omega arith;
          rules = with_rules;
          counts = kept.counts;
          below = kept.below;
          flag = omega arith;
          last = time;
          had = refl;
        })
