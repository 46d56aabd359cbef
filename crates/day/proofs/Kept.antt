-- What a rehearsal keeps of one task: its runs in order, those ahead a period apart, and a length for each.
use Prim.Native.Nat.{ℕ, suc, ◌+◌, ◌-◌, ◌*◌, ◌≤◌, ◌<◌}
use mathlib.Core.Path.{◌≡◌, refl, ◌∙◌}
use mathlib.Core.Logic.{◌⊎◌, inl, inr}
use mathlib.Core.Bool.{false, ◌&&◌}
use native.Mathlib.Decide.{ℕ_discrete}
use native.Mathlib.Omega.{arith}
use native.Mathlib.Nat.{add-mul}
use lib.Dec.{ltb, eqb}
use lib.ListN.{length, get_or, set, length-set}
use lib.Seq.{get_or-set_same, get_or-set_other}
use borrow.Author.Tests.{ltb-false}
use Rattle.lists.proofs.Tests.{by_cases}
use Rattle.units.specs.Limits.{runs_limit, period_limit}
use Rattle.planning.specs.declared.Line.{Line}
use Rattle.task_state.specs.declared.State.{State}
use Rattle.task_state.specs.State.{fresh_state}
use Rattle.task_state.specs.Due.{due_after, release_at}
use Rattle.task_state.specs.Runs.{with_run, without_run}
use Rattle.task_state.specs.Shape.{Shaped}
use Rattle.task_state.proofs.Oldest.{next_up, up_long}
use Rattle.release_order.proofs.InOrder.{InOrder, due, stood, new, up, fresh_order, with_order, without_order}
use Rattle.run_lengths.specs.declared.Work.{Work}
use Rattle.run_lengths.specs.Work.{fresh_work, length_at, with_length, without_length}

-- the release time of a task's k-th unfinished run
abbrev pub released_of : Line → State → ℕ → ℕ
released_of ln st k = due st k - due_after ln

-- an instant stands in the row of those that lie a whole number of periods before the last release time
abbrev pub InRow : Line → State → ℕ → Type 0
InRow ln st x = (q : ℕ) × (x + q * ln.period.0 ≡ st.last.0)

pub record Kept (ln : Line) (st : State) (wk : Work) (t : ℕ) : Type 0 where
  pub order : InOrder ln st
  pub row : (k : ℕ) → k < st.live → (released_of ln st k ≤ t) ⊎ InRow ln st (released_of ln st k)
  pub long : length wk.lengths ≡ runs_limit
  pub some : (k : ℕ) → k < st.live → 1 ≤ length_at wk k
  pub fits : (k : ℕ) → k < st.live → length_at wk k ≤ period_limit

-- a task that has had no run
pub fresh_kept : (ln : Line) (t : ℕ) → Kept ln fresh_state fresh_work t
unfolding fresh_state fresh_work
fresh_kept ln t = record {
  order = fresh_order ln;
  row = λ k l. absurd (omega arith);
  long = refl;
  some = λ k l. absurd (omega arith);
  fits = λ k l. absurd (omega arith);
}

module _ (ln : Line) (st : State) (wk : Work) (t : ℕ) (c : Kept ln st wk t) where
  -- as time goes on
  pub later_kept : (u : ℕ) → t ≤ u → Kept ln st wk u
  later_kept u l = record {
    order = c.order;
    row = λ k h. go k (c.row k h);
    long = c.long;
    some = c.some;
    fits = c.fits;
  }
    where
      go : (k : ℕ) → (released_of ln st k ≤ t) ⊎ InRow ln st (released_of ln st k) → (released_of ln st k ≤ u) ⊎ InRow ln st (released_of ln st k)
      go k (inl h) = inl (omega (arith, h, l))
      go k (inr h) = inr h

  module _ (shaped : Shaped st) (room : st.live < runs_limit) (n : ℕ) (from : 1 ≤ n) (to : n ≤ period_limit) where
    abbrev x : ℕ
    x = release_at ln st t

    -- a run more is released at t, or a period after the last one
    when : ((x ≡ t) × (st.had ≡ 1 → st.last.0 + ln.period.0 ≤ t)) ⊎ (x ≡ st.last.0 + ln.period.0)
    when =
        by_cases (eqb st.had 1 && ltb t (st.last.0 + ln.period.0))
        (λ e. inr (rw e refl))
        (λ e. inl (rw e refl, λ h. on_time e h))
      where
        on_time : (eqb st.had 1 && ltb t (st.last.0 + ln.period.0)) ≡ false → st.had ≡ 1 → st.last.0 + ln.period.0 ≤ t
        on_time e h = ltb-false t (st.last.0 + ln.period.0) (rw h at e)

    -- those that stood there are in the row still, or released
    old_row : (k : ℕ) → k < st.live → (released_of ln st k ≤ t) ⊎ ((q : ℕ) × (released_of ln st k + q * ln.period.0 ≡ x))
    old_row k l = go (c.row k l) when
      where
        go : (released_of ln st k ≤ t) ⊎ InRow ln st (released_of ln st k)
            → ((x ≡ t) × (st.had ≡ 1 → st.last.0 + ln.period.0 ≤ t)) ⊎ (x ≡ st.last.0 + ln.period.0)
            → (released_of ln st k ≤ t) ⊎ ((q : ℕ) × (released_of ln st k + q * ln.period.0 ≡ x))
        go (inl h) w = inl h
        go (inr (q, e)) (inl w) = inl (omega (arith, e, w.1 (c.order.had (omega (arith, l)))))
        go (inr (q, e)) (inr w) = inr (suc q, omega (arith, e, w, add-mul q 1 ln.period.0))

    pub with_kept : Kept ln (with_run ln st x) (with_length wk st.live n) t
    unfolding with_run with_length
    with_kept = record {
      order = with_order ln st c.order t shaped room;
      row = λ k l. rows k l (ℕ_discrete k st.live);
      long = length-set wk.lengths st.live n ∙ c.long;
      some = λ k l. somes k l (ℕ_discrete k st.live);
      fits = λ k l. all k l (ℕ_discrete k st.live);
    }
      where
        rows : (k : ℕ) → k < st.live + 1 → Dec (k ≡ st.live)
            → (released_of ln (with_run ln st x) k ≤ t) ⊎ ((q : ℕ) × (released_of ln (with_run ln st x) k + q * ln.period.0 ≡ x))
        rows k l (yes e) = inr (0, rw (e, new ln st c.order t shaped room) (omega arith))
        rows k l (no e) = rw (stood ln st c.order t shaped room k (omega (arith, l, e))) (old_row k (omega (arith, l, e)))

        somes : (k : ℕ) → k < st.live + 1 → Dec (k ≡ st.live) → 1 ≤ get_or (set wk.lengths st.live n) k 0
        somes k l (yes e) = rw (e, get_or-set_same wk.lengths st.live n 0 (omega (arith, c.long, room))) from
        somes k l (no e) = rw (get_or-set_other wk.lengths st.live k n 0 e) (c.some k (omega (arith, l, e)))

        all : (k : ℕ) → k < st.live + 1 → Dec (k ≡ st.live) → get_or (set wk.lengths st.live n) k 0 ≤ period_limit
        all k l (yes e) = rw (e, get_or-set_same wk.lengths st.live n 0 (omega (arith, c.long, room))) to
        all k l (no e) = rw (get_or-set_other wk.lengths st.live k n 0 e) (c.fits k (omega (arith, l, e)))

  -- without the oldest each stands one place before
  pub length_up : (k : ℕ) → length_at (without_length wk) k ≡ length_at wk (suc k)
  unfolding without_length
  length_up k = next_up 0 wk.lengths k

  pub without_kept : Kept ln (without_run st) (without_length wk) t
  unfolding without_run without_length
  without_kept = record {
    order = without_order ln st c.order;
    row = λ k l. rw (up ln st c.order k) (c.row (suc k) (omega (arith, l)));
    long = up_long 0 wk.lengths c.long;
    some = λ k l. rw (length_up k) (c.some (suc k) (omega (arith, l)));
    fits = λ k l. rw (length_up k) (c.fits (suc k) (omega (arith, l)));
  }
