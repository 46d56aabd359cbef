-- A task's stored runs stand in the order of their release times, and their deadlines rise by at least T.
use Prim.Native.Nat.{ℕ, suc, ◌+◌, ◌≤◌, ◌<◌}
use mathlib.Core.Path.{◌≡◌, refl, ap}
use native.Mathlib.Decide.{ℕ_discrete}
use native.Mathlib.Omega.{arith}
use lib.Seq.{get_or-set_same, get_or-set_other}
use Rattle.units.specs.Limits.{runs_limit}
use Rattle.units.specs.Units.{ticks}
use Rattle.units.specs.declared.ticks.Ticks.{Ticks}
use Rattle.planning.specs.declared.Line.{Line}
use Rattle.release_times.proofs.Later.{apart}
use Rattle.task_state.specs.declared.State.{State}
use Rattle.task_state.specs.State.{run_at, fresh_state}
use Rattle.task_state.specs.Due.{due_after, release_at}
use Rattle.task_state.specs.Runs.{with_run, without_run}
use Rattle.task_state.specs.Shape.{Shaped}
use Rattle.task_state.proofs.Oldest.{next_up}

-- the deadline of a task's k-th unfinished run
abbrev pub due : State → ℕ → ℕ
due st k = (run_at st k).deadline.0

pub record InOrder (ln : Line) (st : State) : Type 0 where
  -- each deadline is at least T above the one before
  pub rise : (k : ℕ) → suc k < st.live → due st k + ln.period.0 ≤ due st (suc k)
  -- the youngest run is that of the last release
  pub youngest : (k : ℕ) → suc k ≡ st.live → due st k ≡ st.last.0 + due_after ln
  pub had : 0 < st.live → st.had ≡ 1
  -- each is due so long after a release time
  pub long : (k : ℕ) → k < st.live → due_after ln ≤ due st k

-- none stands at first
pub fresh_order : (ln : Line) → InOrder ln fresh_state
unfolding fresh_state
fresh_order ln = record {
  rise = λ k l. absurd (omega arith);
  youngest = λ k e. absurd (omega arith);
  had = λ l. absurd (omega arith);
  long = λ k l. absurd (omega arith);
}

module _ (ln : Line) (st : State) (o : InOrder ln st) where
  module _ (t : ℕ) (shaped : Shaped st) (room : st.live < runs_limit) where
    -- a run's release time
    abbrev x : ℕ
    x = release_at ln st t

    -- the runs that stood there stay, and the new one is due from its release time on
    pub stood : (k : ℕ) → k < st.live → due (with_run ln st x) k ≡ due st k
    unfolding with_run
    stood k l = ap (λ (d : Ticks). d.0) (get_or-set_other st.deadlines st.live k (ticks (x + due_after ln)) (ticks 0) (λ e. omega arith))

    pub new : due (with_run ln st x) st.live ≡ x + due_after ln
    unfolding with_run
    new =
        ap (λ (d : Ticks). d.0)
        (get_or-set_same st.deadlines st.live (ticks (x + due_after ln)) (ticks 0) (omega (arith, shaped.deadlines)))

    -- the new run is at least T above the youngest
    last_rise : (k : ℕ) → suc k ≡ st.live → due (with_run ln st x) k + ln.period.0 ≤ due (with_run ln st x) (suc k)
    last_rise k e =
        rw (e, stood k (omega arith), new)
        (omega (arith, o.youngest k e, apart st.had st.last.0 ln.period.0 t (o.had (omega arith))))

    -- so with a run more
    pub with_order : InOrder ln (with_run ln st x)
    unfolding with_run
    with_order = record {
      rise = λ k l. go k l (ℕ_discrete (suc k) st.live);
      youngest = λ k e. let same : k ≡ st.live = omega arith in rw same new;
      had = λ l. refl;
      long = λ k l. old k l (ℕ_discrete k st.live);
    }
      where
        go : (k : ℕ) → suc k < st.live + 1 → Dec (suc k ≡ st.live) → due (with_run ln st x) k + ln.period.0 ≤ due (with_run ln st x) (suc k)
        go k l (yes e) = last_rise k e
        go k l (no n) = rw (stood k (omega arith), stood (suc k) (omega arith)) (o.rise k (omega arith))

        old : (k : ℕ) → k < st.live + 1 → Dec (k ≡ st.live) → due_after ln ≤ due (with_run ln st x) k
        old k l (yes e) = rw (e, new) (omega arith)
        old k l (no n) = rw (stood k (omega arith)) (o.long k (omega arith))

  -- without the oldest each stands one place before
  pub up : (k : ℕ) → due (without_run st) k ≡ due st (suc k)
  unfolding without_run
  up k = ap (λ (d : Ticks). d.0) (next_up (ticks 0) st.deadlines k)

  pub without_order : InOrder ln (without_run st)
  unfolding without_run
  without_order = record {
    rise = λ k l. rw (up k, up (suc k)) (o.rise (suc k) (omega arith));
    youngest = λ k e. rw (up k) (o.youngest (suc k) (omega arith));
    had = λ l. o.had (omega arith);
    long = λ k l. rw (up k) (o.long (suc k) (omega arith));
  }
