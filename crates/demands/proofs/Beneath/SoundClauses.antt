-- A sound record says every clause of document 01, and the clauses say that it is sound.
use Prim.Native.Nat.{ℕ, ◌≤◌, ◌<◌}
use mathlib.Core.Path.{◌≡◌, refl}
use mathlib.Core.Logic.{⊎_elim}
use native.Mathlib.Omega.{arith}
use lib.Dec.{ltb, eqb}
use lib.ListN.{get_or-eq_default}
use borrow.Author.Tests.{ltb-true, ltb-false, le-ltb, eqb-true}
use Rattle.units.specs.Limits.{tasks_limit}
use Rattle.lists.proofs.Tests.{by_cases, or_cases}
use Rattle.lists.proofs.Lists.{get_or_le_sum}
use Rattle.planning.specs.Plan.{row_of}
use Rattle.soundness.proofs.Numbers.{Numbers}
use Rattle.soundness.proofs.Ranges.{in_range, sound_in, sound_small}
use Rattle.soundness.proofs.Facts.{task_sound}
use Rattle.soundness.proofs.Lined.{lined}
use Rattle.task_state.specs.State.{no_state, run_at}
use Rattle.state_rules.proofs.Facts.{Facts, facts, unfinished, past as past_runs}
use Rattle.dispatch.specs.declared.Record.{Record}
use Rattle.dispatch.specs.Record.{line_at, state_at}
use Rattle.dispatch.specs.Shape.{Shaped}
use Rattle.dispatch.proofs.SoundFacts.{SoundFacts, state_sound_lem}
use Rattle.demands.specs.Sound.{InRange, NoLine, NoRun, NoState, Sound}
use Rattle.demands.proofs.Beneath.SoundPlan.{plan_numbers, multiple, least, exact, past_zero, weighs, core_kept, none_beyond, heavier}
use Rattle.demands.proofs.Beneath.PlanSound.{plan_rule}
use Rattle.demands.proofs.Beneath.SoundState.{every_run, empty_state, state_rule}

module _ (r : Record) (long : Shaped r) (s : SoundFacts r) where
  -- the plan's numbers
  n : Numbers r.plan
  n = plan_numbers r.plan long.plan s.plan

  module _ (i : ℕ) where
    -- a line past the N tasks
    none_line : r.plan.count ≤ i → NoLine (line_at r i)
    none_line h =
        let z = past_zero r.plan long.plan s.plan i h in
        record { numbers = (z.cost, z.period, z.weight); shares = λ p. omega (arith, z.shares, get_or_le_sum (row_of (line_at r i)) p) }

    -- and a state
    none_state : r.plan.count ≤ i → NoState (state_at r i)
    none_state h =
        by_cases (ltb i tasks_limit)
        (λ t.
        let l = ltb-true i tasks_limit t in
        empty_state (state_at r i) (long.each i l) (rw (le-ltb i r.plan.count h) at (s.states i l)))
        (λ t. rw (get_or-eq_default r.states no_state {n = i} (omega (arith, long.states, ltb-false i tasks_limit t)))
        (record { numbers = (refl, refl, refl, refl); counts = λ p. refl; runs = λ k. (refl, refl) }))

    module _ (h : i < r.plan.count) where
      -- the state of a task in use
      f : Facts (line_at r i) (state_at r i)
      f = facts (line_at r i) (state_at r i) (state_sound_lem r s i h)

      -- its numbers
      in_ranges : InRange r.plan.common (line_at r i) (state_at r i)
      in_ranges =
          let ok = task_sound r.plan s.plan i h in
          let t = in_range (line_at r i) (sound_in r.plan.common (line_at r i) ok) in
          record {
            period = (omega (arith, t.cost_some, t.cost_fits), t.period_small);
            cost = (t.cost_some, t.cost_fits);
            weight = ((lined r.plan long.plan.lines s.plan i h).some, sound_small r.plan.common (line_at r i) ok);
            live = f.few;
            had = f.flag;
          }

      -- past its unfinished runs
      none_run : (k : ℕ) → (state_at r i).live ≤ k → NoRun (run_at (state_at r i) k)
      none_run =
          every_run (state_at r i) (long.each i (omega (arith, n.count_few))) (state_at r i).live
          (past_runs (line_at r i) (state_at r i) f)

      -- the last release of a task that has had none
      none_last : (state_at r i).had ≡ 0 → (state_at r i).last.0 ≡ 0
      none_last e =
          ⊎_elim
          (λ u. absurd (omega (arith, eqb-true (state_at r i).had 1 u)))
          (λ u. eqb-true (state_at r i).last.0 0 u)
          (or_cases (eqb (state_at r i).had 1) (eqb (state_at r i).last.0 0) f.had)

  -- every clause
  pub clauses : Sound r
  clauses = record {
    cores = (n.cores_some, n.cores_few);
    tasks = (n.count_some, n.count_few);
    common = (n.common_some, n.common_small);
    clock = s.clock;
    ranges = in_ranges;
    past = λ i h. (none_line i h, none_state i h);
    ended = λ i k h. none_run i h k;
    unreleased = none_last;
    last = λ i h. (f i h).last;
    multiple = multiple r.plan long.plan s.plan;
    least = least r.plan long.plan s.plan;
    weights = exact r.plan long.plan s.plan;
    shares = λ i h. weighs r.plan long.plan s.plan i;
    loads = λ p. (core_kept r.plan long.plan s.plan p).within;
    only = none_beyond r.plan long.plan s.plan;
    movers = λ p. (core_kept r.plan long.plan s.plan p).few;
    first = λ p. (core_kept r.plan long.plan s.plan p).first;
    guarded = heavier r.plan long.plan s.plan;
    counts = λ i h. (f i h).counts;
    places = λ i h. (f i h).below;
    runs = λ i k h l. let u = unfinished (line_at r i) (state_at r i) (f i h) k l in (u.from, u.share);
    deadlines = λ i k h l. (unfinished (line_at r i) (state_at r i) (f i h) k l).due;
  }

-- and they say that it is sound
pub from_clauses : (r : Record) → Shaped r → Sound r → SoundFacts r
from_clauses r long x = record { clock = x.clock; plan = plan_rule r long x; states = state_rule r long x }
