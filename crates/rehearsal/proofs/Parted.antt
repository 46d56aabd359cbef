-- Parts of a rehearsal's steps: what they are.
use Prim.Native.Nat.{ℕ, zero, suc, ◌*◌, ◌≤◌, ◌<◌}
use mathlib.Core.Path.{◌≡◌, refl, ◌∙◌}
use mathlib.Core.Logic.{◌⊎◌, inl, inr}
use mathlib.Core.List.{List}
use native.Mathlib.Omega.{arith}
use lib.Dec.{ltb, eqb}
use lib.ListN.{length, get_or}
use lib.Seq.{get_or-set_same, get_or-set_other}
use borrow.Author.Tests.{ltb-true, ltb-false, eqb-true, eqb-false}
use Rattle.lists.proofs.Tests.{by_cases}
use Rattle.units.specs.Limits.{tasks_limit}
use Rattle.planning.specs.declared.Line.{Line}
use Rattle.planning.specs.Plan.{no_line}
use Rattle.task_state.specs.State.{fresh_state}
use Rattle.arrivals.specs.Arrivals.{arrivals_in, arrival_time}
use Rattle.run_lengths.specs.Work.{fresh_work}
use Rattle.fronts.specs.declared.Front.{Front}
use Rattle.fronts.specs.Front.{no_front, front_of}
use Rattle.fronts.specs.Inner.{Frontable}
use Rattle.front_rows.specs.Rows.{fronts_in}
use Rattle.front_rows.proofs.Rows.{fronts_long, put_long, fronts_put}
use Rattle.rehearsal.specs.Parts.{coming_at, fresh_fronts}

-- an arrival before the stop, or the stop, where none is before it
pub coming_cases : (xs : List ℕ) (k stop : ℕ)
    → ((k < arrivals_in xs) × (arrival_time xs k < stop) × (coming_at xs k stop ≡ arrival_time xs k))
    ⊎ ((coming_at xs k stop ≡ stop) × (k < arrivals_in xs → stop ≤ arrival_time xs k))
unfolding coming_at
coming_cases xs k stop =
    by_cases (ltb k (arrivals_in xs))
    (λ e.
    by_cases (ltb (arrival_time xs k) stop)
    (λ f. inl (ltb-true k (arrivals_in xs) e, ltb-true (arrival_time xs k) stop f, rw (e, f)))
    (λ f. inr (rw (e, f), λ h. ltb-false (arrival_time xs k) stop f)))
    (λ e. inr (rw e, λ h. absurd (omega (arith, ltb-false k (arrivals_in xs) e))))

-- a front of a task that has had no run can be asked
pub fresh_asked : (ln : Line) → Frontable ln fresh_state fresh_work
unfolding fresh_state fresh_work
fresh_asked ln = record {
  placed = λ h. absurd (omega arith);
  here = λ h. absurd (omega arith);
  due = λ h. absurd (omega arith);
  few = omega arith;
}

-- task n's front, in turn
abbrev fresh_at : List Line → ℕ → Front
fresh_at ls n = front_of (get_or ls n no_line) fresh_state fresh_work

module _ (xs : List ℕ) where
  -- as many numbers
  pub fresh_rows : (ls : List Line) (n : ℕ) → length (fresh_fronts xs ls n) ≡ length xs
  unfolding fresh_fronts
  fresh_rows ls zero = refl
  fresh_rows ls (suc n) = put_long (fresh_fronts xs ls n) n (fresh_at ls n) ∙ fresh_rows ls n

  -- each of the first n has the front of its line
  pub fresh_front : length xs ≡ 7 * tasks_limit → (ls : List Line) (n i : ℕ) → i < n → n ≤ tasks_limit
      → get_or (fronts_in (fresh_fronts xs ls n)) i no_front ≡ front_of (get_or ls i no_line) fresh_state fresh_work
  unfolding fresh_fronts
  fresh_front long ls zero i h l = absurd (omega arith)
  fresh_front long ls (suc n) i h l =
      let ys = fresh_fronts xs ls n in
      let rows = fronts_put ys (fresh_rows ls n ∙ long) n (omega (arith, l)) (fresh_at ls n) in
      rw rows
      (by_cases (eqb i n)
      (λ e. rw (eqb-true i n e) (get_or-set_same (fronts_in ys) n (fresh_at ls n) no_front (omega (arith, l, fronts_long ys))))
      (λ e.
      let other = eqb-false i n e in
      get_or-set_other (fronts_in ys) n i (fresh_at ls n) no_front other ∙ fresh_front long ls n i (omega (arith, h, other)) (omega (arith, l))))
