-- A task's unfinished runs: a release adds one at the end, a finish ends the oldest.
use Prim.Native.Nat.{ℕ, zero, suc, ◌+◌, ◌-◌, ◌<◌}
use mathlib.Core.Path.{◌≡◌, refl, ap, ◌∙◌}
use mathlib.Core.List.{List, [], ◌∷◌, ◌++◌}
use native.Mathlib.Numerals.{add-one}
use native.Mathlib.Omega.{arith}
use lib.Seq.{get_or-set_same, get_or-set_other}
use Rattle.units.specs.Limits.{runs_limit}
use Rattle.units.specs.Units.{ticks}
use Rattle.planning.specs.declared.Line.{Line}
use Rattle.stored_runs.specs.declared.Run.{Run}
use Rattle.task_state.specs.declared.State.{State}
use Rattle.stored_runs.specs.Run.{run}
use Rattle.task_state.specs.State.{run_at, first_runs, runs_of}
use Rattle.task_state.specs.Runs.{turn_at, with_run, without_run}
use Rattle.task_state.specs.Shape.{Shaped}
use Rattle.task_state.proofs.Oldest.{next_up}

-- the same runs, one by one, are the same first runs
first_same : (a b : State) (n : ℕ) → ((k : ℕ) → k < n → run_at a k ≡ run_at b k) → first_runs a n ≡ first_runs b n
first_same a b zero h = refl
first_same a b (suc n) h = rw (h n (omega arith), first_same a b n (λ k l. h k (omega arith)))

-- runs that stand one place later, behind an oldest one
first_later : (a b : State) (n : ℕ) → ((k : ℕ) → run_at b k ≡ run_at a (suc k)) → first_runs a (suc n) ≡ run_at a 0 ∷ first_runs b n
first_later a b zero h = refl
first_later a b (suc n) h = rw (h n, first_later a b n h)

module _ (ln : Line) (st : State) (t : ℕ) where
  -- the runs that stood there stay
  runs_others : (k : ℕ) → k < st.live → run_at (with_run ln st t) k ≡ run_at st k
  unfolding with_run
  runs_others k l =
      rw (
        get_or-set_other st.cores st.live k (turn_at ln st).core 0 (λ e. omega arith),
        get_or-set_other st.deadlines st.live k (ticks (t + ln.period.0)) (ticks 0) (λ e. omega arith),
      )

  -- and a run more stands after them
  pub runs_more : Shaped st → st.live < runs_limit → runs_of (with_run ln st t) ≡ runs_of st ++ (run (turn_at ln st).core (t + ln.period.0) ∷ [])
  unfolding with_run
  runs_more shaped room =
      let last : List Run = run (turn_at ln st).core (t + ln.period.0) ∷ [] in
      ap (first_runs (with_run ln st t)) (add-one st.live)
      ∙ rw (
        get_or-set_same st.cores st.live (turn_at ln st).core 0 (omega (arith, shaped.cores)),
        get_or-set_same st.deadlines st.live (ticks (t + ln.period.0)) (ticks 0) (omega (arith, shaped.deadlines)),
      ) (ap (λ rs. rs ++ last) (first_same (with_run ln st t) st st.live runs_others))

-- without the oldest run the others stay
pub runs_less : (st : State) → 0 < st.live → runs_of st ≡ run_at st 0 ∷ runs_of (without_run st)
unfolding without_run
runs_less st some =
    let e : st.live ≡ suc (st.live - 1) = omega arith in
    ap (first_runs st) e
    ∙ first_later st (without_run st) (st.live - 1) (λ k. rw (next_up 0 st.cores k, next_up (ticks 0) st.deadlines k))
