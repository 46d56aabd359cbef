-- A run's rule as the code tests it: its core first.
use Prim.Native.Nat.{ℕ, ◌+◌, ◌-◌, ◌≤◌, ◌<◌}
use mathlib.Core.Path.{◌≡◌}
use mathlib.Core.Bool.{Bool, true, false, cond, ◌&&◌}
use mathlib.Core.List.{List}
use borrow.Author.Tests.{ltb-true, leb-true, lt-ltb, le-ltb}
use lib.Dec.{ltb, leb}
use lib.ListN.{get_or}
use Rattle.units.specs.declared.share.Share.{Share}
use Rattle.units.specs.Limits.{cores_limit, clock_limit}
use Rattle.units.specs.Units.{share, nums}
use Rattle.units.proofs.Units.{nums_at}
use Rattle.lists.proofs.Tests.{and_left, and_right}
use Rattle.planning.specs.declared.Line.{Line}
use Rattle.stored_runs.specs.declared.Run.{Run}
use Rattle.task_state.specs.declared.State.{State}
use Rattle.task_state.specs.State.{run_at}
use Rattle.task_state.specs.Due.{due_after}
use Rattle.stored_runs.specs.Run.{run_empty}
use Rattle.state_rules.specs.Sound.{run_rule}

-- a run's core is from 1 to 16
abbrev pub placed : Run → Bool
placed r = ltb 0 r.core && leb r.core cores_limit

pub placed_in : (r : Run) → placed r ≡ true → (0 < r.core) × (r.core ≤ cores_limit)
placed_in r e =
    let some = ltb 0 r.core in
    let few = leb r.core cores_limit in
    (ltb-true 0 r.core (and_left some few e), leb-true r.core cores_limit (and_right some few e))

-- the rule of a line with these shares, whose runs are due by the latest
abbrev pub rule_by : List Share → ℕ → State → ℕ → Bool
rule_by ss latest st k =
    let r = run_at st k in
    cond (ltb k st.live) (placed r && ltb 0 (get_or (nums ss) (r.core - 1) 0) && leb r.deadline.0 latest) (run_empty r)

module _ (ln : Line) (st : State) (k : ℕ) where
  -- an unfinished run on no core
  pub unplaced : k < st.live → placed (run_at st k) ≡ false → run_rule ln st k ≡ false
  unplaced h e = rw (lt-ltb k st.live h, e)

  module _ {latest : ℕ} (q : latest ≡ clock_limit + due_after ln) where
    -- an unfinished run on a core
    pub unfinished : k < st.live → placed (run_at st k) ≡ true
        → run_rule ln st k ≡ (ltb 0 (get_or ln.shares ((run_at st k).core - 1) (share 0)).0 && leb (run_at st k).deadline.0 latest)
    unfinished h e = rw (lt-ltb k st.live h, e, nums_at ln.shares ((run_at st k).core - 1), q)

    -- each run's rule
    pub rule_by_lem : rule_by ln.shares latest st k ≡ run_rule ln st k
    rule_by_lem = rw q

  -- what stands past the unfinished
  pub past : st.live ≤ k → run_rule ln st k ≡ run_empty (run_at st k)
  past h = rw (le-ltb k st.live h)
