-- What the soundness of a task's state says, as facts.
use Prim.Native.Nat.{ℕ, ◌+◌, ◌≤◌, ◌<◌}
use mathlib.Core.Path.{◌≡◌}
use mathlib.Core.Bool.{true, ◌&&◌, ◌||◌}
use native.Mathlib.Omega.{arith}
use borrow.Author.Tests.{leb-true, le-leb, ltb-true, ltb-false, lt-ltb, le-ltb, eqb-true, eq-eqb}
use lib.Dec.{ltb, leb, eqb}
use Rattle.units.specs.Limits.{clock_limit, common_limit, runs_limit}
use Rattle.lists.specs.Lists.{total}
use Rattle.lists.specs.Below.{all_below}
use Rattle.lists.proofs.Tests.{by_cases, and_left, and_right}
use Rattle.lists.proofs.Below.{all_at, all_from}
use Rattle.planning.specs.declared.Line.{Line}
use Rattle.planning.specs.Plan.{row_of}
use Rattle.turn.specs.Inner.{Turnable}
use Rattle.task_state.specs.declared.State.{State}
use Rattle.task_state.specs.State.{run_at}
use Rattle.stored_runs.specs.Run.{run_empty}
use Rattle.state_rules.specs.Sound.{run_rule, runs_sound, turn_sound, last_sound, state_sound}
use Rattle.task_state.specs.Key.{deadline_of}
use Rattle.task_state.specs.Tests.{release_tests}
use Rattle.task_state.specs.Inner.{Releasable}
use Rattle.task_state.proofs.Passed.{release_in, has_room}
use Rattle.state_rules.proofs.RunFacts.{RunFacts, run_facts}

pub record Facts (ln : Line) (st : State) : Type 0 where
  pub few : st.live ≤ runs_limit
  pub rules : (k : ℕ) → k < runs_limit → run_rule ln st k ≡ true
  pub counts : total st.counts ≡ st.place
  pub below : st.place < ln.weight.0
  pub flag : st.had ≤ 1
  pub last : st.last.0 ≤ clock_limit
  pub had : (eqb st.had 1 || eqb st.last.0 0) ≡ true

module _ (ln : Line) (st : State) where
  -- soundness says them
  pub facts : state_sound ln st ≡ true → Facts ln st
  facts e =
      let rules = all_below runs_limit (λ k. run_rule ln st k) in
      let some = and_left (runs_sound ln st && turn_sound ln st) (last_sound st) e in
      let runs = and_left (runs_sound ln st) (turn_sound ln st) some in
      let turn = and_right (runs_sound ln st) (turn_sound ln st) some in
      let last = and_right (runs_sound ln st && turn_sound ln st) (last_sound st) e in
      let summed = eqb (total st.counts) st.place in
      let below = ltb st.place ln.weight.0 in
      let flag = leb st.had 1 in
      let within = leb st.last.0 clock_limit in
      let had = eqb st.had 1 || eqb st.last.0 0 in
      let range = and_left (flag && within) had last in
      record {
        few = leb-true st.live runs_limit (and_left (leb st.live runs_limit) rules runs);
        rules = λ k l. all_at runs_limit k (λ j. run_rule ln st j) l (and_right (leb st.live runs_limit) rules runs);
        counts = eqb-true (total st.counts) st.place (and_left summed below turn);
        below = ltb-true st.place ln.weight.0 (and_right summed below turn);
        flag = leb-true st.had 1 (and_left flag within range);
        last = leb-true st.last.0 clock_limit (and_right flag within range);
        had = and_right (flag && within) had last;
      }

  -- and they say it
  pub from_facts : Facts ln st → state_sound ln st ≡ true
  from_facts f =
      rw (
        le-leb st.live runs_limit f.few,
        all_from runs_limit (λ k. run_rule ln st k) f.rules,
        eq-eqb (total st.counts) st.place f.counts,
        lt-ltb st.place ln.weight.0 f.below,
        le-leb st.had 1 f.flag,
        le-leb st.last.0 clock_limit f.last,
      ) f.had

module _ (ln : Line) (st : State) (f : Facts ln st) where
  -- an unfinished run
  pub unfinished : (k : ℕ) → k < st.live → RunFacts ln (run_at st k)
  unfinished k l = run_facts ln (run_at st k) (rw (lt-ltb k st.live l) at (f.rules k (omega (arith, f.few))))

  -- and what stands past them
  pub past : (k : ℕ) → st.live ≤ k → k < runs_limit → run_empty (run_at st k) ≡ true
  past k h l = rw (le-ltb k st.live h) at (f.rules k l)

  -- the oldest run's deadline, 0 where there is none
  pub oldest_due : deadline_of st ≤ clock_limit + ln.period.0
  oldest_due =
      by_cases (ltb 0 st.live)
      (λ e. (unfinished 0 (ltb-true 0 st.live e)).due)
      (λ e.
      let z = and_right (eqb (run_at st 0).core 0) (eqb (deadline_of st) 0) (past 0 (ltb-false 0 st.live e) (omega arith)) in
      omega (arith, eqb-true (deadline_of st) 0 z))

  -- the turn step can be asked for, if the shares sum to the weight
  pub turnable : ln.weight.0 ≤ common_limit → total (row_of ln) ≡ ln.weight.0 → Turnable ln.weight.0 st.place (row_of ln) st.counts
  turnable h e = record { small = h; below = f.below; shares = e; counts = f.counts }

  -- and a release that its task does not refuse can be taken
  pub releasable : (t : ℕ) → release_tests ln st t ≡ 0 → ln.weight.0 ≤ common_limit → total (row_of ln) ≡ ln.weight.0 → Releasable ln st t
  releasable t e small shares =
      record { turn = turnable small shares; room = has_room ln st t e f.few; last = f.last; released = release_in ln st t e }
