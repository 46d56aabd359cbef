-- A task at an instant: its unfinished runs are the last of its accepted arrivals, with their lengths, and the oldest has had the ticks in which it had
-- its core.
use Prim.Native.Nat.{ℕ, suc, ◌+◌, ◌<◌}
use mathlib.Core.Path.{◌≡◌, refl, sym, ap, ◌∙◌}
use mathlib.Core.List.{List, [], ◌∷◌, ◌++◌}
use native.Mathlib.Decide.{ℕ_discrete}
use native.Mathlib.Omega.{arith}
use lib.ListN.{length, get_or, set, length-append, get_or-append}
use lib.Seq.{get_or-set_same, get_or-set_other, get_or_at}
use Rattle.units.specs.Limits.{runs_limit}
use Rattle.planning.specs.declared.Line.{Line}
use Rattle.planning.specs.declared.Plan.{Plan}
use Rattle.task_state.specs.declared.State.{State}
use Rattle.task_state.specs.State.{run_at, fresh_state}
use Rattle.task_state.specs.Runs.{with_run, without_run}
use Rattle.task_state.specs.Shape.{Shaped}
use Rattle.task_state.proofs.Oldest.{next_up}
use Rattle.arrivals.specs.Arrivals.{arrival_length}
use Rattle.run_lengths.specs.declared.Work.{Work}
use Rattle.run_lengths.specs.Work.{fresh_work, length_at, with_length, without_length}
use Rattle.day_words.specs.Words.{ticks_of}

pub record Told (pl : Plan) (xs : List ℕ) (u i : ℕ) (ks : List ℕ) (st : State) (wk : Work) (h : ℕ) : Type 0 where
  pub all : length ks ≡ wk.ended + st.live
  pub each : (k : ℕ) → k < st.live → length_at wk k ≡ arrival_length xs (get_or ks (wk.ended + k) 0)
  pub ahead : (q m : ℕ) → q < pl.cores → wk.ended + 1 < m → ticks_of pl xs q (suc i) m u ≡ 0
  pub none : st.live ≡ 0 → (q : ℕ) → q < pl.cores → ticks_of pl xs q (suc i) (wk.ended + 1) u ≡ 0
  pub oldest : 0 < st.live → (q : ℕ) → q < pl.cores → (run_at st 0).core ≡ suc q → ticks_of pl xs q (suc i) (wk.ended + 1) u ≡ h

-- a task that has had no run
pub told_fresh : (pl : Plan) (xs : List ℕ) (i : ℕ) → Told pl xs 0 i [] fresh_state fresh_work 0
unfolding fresh_state fresh_work
told_fresh pl xs i = record {
  all = refl;
  each = λ k l. absurd (omega (arith, l));
  ahead = λ q m l h. refl;
  none = λ z q l. refl;
  oldest = λ z q l c. refl;
}

module _ (pl : Plan) (xs : List ℕ) (u i : ℕ) (ks : List ℕ) (st : State) (wk : Work) (h : ℕ) (s : Told pl xs u i ks st wk h) where
  -- arrival k is taken
  pub told_came : (ln : Line) (x k : ℕ) → Shaped st → length wk.lengths ≡ runs_limit → st.live < runs_limit → (st.live ≡ 0 → h ≡ 0)
      → Told pl xs u i (ks ++ (k ∷ [])) (with_run ln st x) (with_length wk st.live (arrival_length xs k)) h
  unfolding with_run with_length
  told_came ln x k shaped long room rest = record {
    all = length-append ks (k ∷ []) ∙ omega (arith, s.all);
    each = λ j l. each j l (ℕ_discrete j st.live);
    ahead = s.ahead;
    none = λ z. absurd (omega (arith, z));
    oldest = λ z q l c. oldest q l c (ℕ_discrete st.live 0);
  }
    where
      each : (j : ℕ) → j < st.live + 1 → Dec (j ≡ st.live)
          → get_or (set wk.lengths st.live (arrival_length xs k)) j 0 ≡ arrival_length xs (get_or (ks ++ (k ∷ [])) (wk.ended + j) 0)
      each j l (yes e) =
          let new = get_or-set_same wk.lengths st.live (arrival_length xs k) 0 (omega (arith, long, room)) in
          rw (e, new, get_or_at ks k [] 0 (wk.ended + st.live) s.all) refl
      each j l (no e) =
          rw (get_or-set_other wk.lengths st.live j (arrival_length xs k) 0 e, get_or-append ks (k ∷ []) 0 (wk.ended + j) (omega (arith, s.all, l, e)))
          (s.each j (omega (arith, l, e)))

      oldest : (q : ℕ) → q < pl.cores → (run_at (with_run ln st x) 0).core ≡ suc q → Dec (st.live ≡ 0) → ticks_of pl xs q (suc i) (wk.ended + 1) u ≡ h
      oldest q l c (yes z) = s.none z q l ∙ sym (rest z)
      oldest q l c (no z) = s.oldest (omega (arith, z)) q l (sym (get_or-set_other st.cores st.live 0 _ 0 (λ e. z (sym e))) ∙ c)

  -- the oldest run ends
  pub told_ended : 0 < st.live → Told pl xs u i ks (without_run st) (without_length wk) 0
  unfolding without_run without_length
  told_ended some = record {
    all = omega (arith, s.all, some);
    each = λ j l.
        let e : wk.ended + suc j ≡ wk.ended + 1 + j = omega arith in
        next_up 0 wk.lengths j ∙ s.each (suc j) (omega (arith, l)) ∙ ap (λ (y : ℕ). arrival_length xs (get_or ks y 0)) e;
    ahead = λ q m l b. s.ahead q m l (omega (arith, b));
    none = λ z q l. s.ahead q (wk.ended + 1 + 1) l (omega arith);
    oldest = λ z q l c. s.ahead q (wk.ended + 1 + 1) l (omega arith);
  }
