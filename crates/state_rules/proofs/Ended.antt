-- A task's state without its oldest run is sound.
use Prim.Native.Nat.{ℕ, suc, ◌-◌, ◌≤◌, ◌<◌}
use mathlib.Core.Path.{◌≡◌, ◌∙◌}
use mathlib.Core.Bool.{true}
use native.Mathlib.Omega.{arith}
use borrow.Author.Tests.{ltb-true, ltb-false, lt-ltb, le-ltb}
use lib.Dec.{ltb}
use lib.ListN.{get_or-eq_default}
use Rattle.units.specs.Limits.{runs_limit}
use Rattle.units.specs.Units.{ticks}
use Rattle.lists.proofs.Tests.{by_cases, same_bool}
use Rattle.planning.specs.declared.Line.{Line}
use Rattle.task_state.specs.declared.State.{State}
use Rattle.state_rules.specs.Sound.{run_rule, state_sound}
use Rattle.task_state.specs.Runs.{without_run}
use Rattle.task_state.proofs.Oldest.{next_up, up_long}
use Rattle.state_rules.proofs.Facts.{facts, from_facts}
use Rattle.task_state.specs.Shape.{Shaped}

-- the lengths stay
pub without_shaped : (st : State) → Shaped st → Shaped (without_run st)
unfolding without_run
without_shaped st shaped = record {
  deadlines = up_long (ticks 0) st.deadlines shaped.deadlines;
  counts = shaped.counts;
  cores = up_long 0 st.cores shaped.cores;
}

-- below one less
below_less : (k n : ℕ) → ltb k (n - 1) ≡ ltb (suc k) n
below_less k n =
    same_bool (ltb k (n - 1)) (ltb (suc k) n)
    (λ e. lt-ltb (suc k) n (omega (arith, ltb-true k (n - 1) e)))
    (λ e. lt-ltb k (n - 1) (omega (arith, ltb-true (suc k) n e)))

module _ (ln : Line) (st : State) (shaped : Shaped st) (sound : state_sound ln st ≡ true) where
  -- each run has the rule of the one after it
  without_rule : (k : ℕ) → run_rule ln (without_run st) k ≡ run_rule ln st (suc k)
  unfolding without_run
  without_rule k = rw (below_less k st.live, next_up 0 st.cores k, next_up (ticks 0) st.deadlines k)

  -- past the eighth there is none
  last_rule : (k : ℕ) → runs_limit ≤ k → run_rule ln st k ≡ true
  last_rule k h =
      rw (
        le-ltb k st.live (omega (arith, (facts ln st sound).few)),
        get_or-eq_default st.cores 0 {n = k} (omega (arith, shaped.cores)),
        get_or-eq_default st.deadlines (ticks 0) {n = k} (omega (arith, shaped.deadlines)),
      )

  -- so each keeps its rule
  without_rules : (k : ℕ) → k < runs_limit → run_rule ln (without_run st) k ≡ true
  without_rules k l =
      without_rule k ∙
      by_cases (ltb (suc k) runs_limit)
      (λ e. (facts ln st sound).rules (suc k) (ltb-true (suc k) runs_limit e))
      (λ e. last_rule (suc k) (ltb-false (suc k) runs_limit e))

  -- and the state is sound
  pub without_sound : state_sound ln (without_run st) ≡ true
  unfolding without_run
  without_sound =
      let f = facts ln st sound in
      from_facts ln (without_run st) (record {
        few = omega (arith, f.few);
        rules = without_rules;
        counts = f.counts;
        below = f.below;
        flag = f.flag;
        last = f.last;
        had = f.had;
      })
