-- The equations of a task's unfinished runs: what the oldest has had, one run more, and one task more.
use Prim.Native.Nat.{ℕ, suc, ◌+◌}
use mathlib.Core.Path.{◌≡◌, sym, ap}
use mathlib.Core.Bool.{cond}
use mathlib.Core.List.{List, [], ◌∷◌, ◌++◌}
use native.Mathlib.Numerals.{add-one}
use borrow.Author.Tests.{eq-eqb, ne_eqb, eqb-true, eqb-false}
use Rattle.lists.proofs.Tests.{by_cases}
use lib.Dec.{eqb}
use lib.ListN.{get_or}
use Rattle.task_state.specs.declared.State.{State}
use Rattle.run_lengths.specs.declared.Work.{Work}
use Rattle.seats.specs.declared.Seat.{Seat}
use Rattle.seats.specs.Seat.{no_seat}
use Rattle.day_rules.specs.Day.{runs_left}
use Rattle.unfinished_runs.specs.Inner.{run_left}
use Rattle.unfinished_runs.specs.Left.{left_by}

module _ {x : ℕ} (k had : ℕ) where
  -- the ticks had are those of the oldest run
  pub oldest : k ≡ 0 → x ≡ had → x ≡ cond (eqb k 0) had 0
  oldest z e = rw (eq-eqb k 0 z) e

  -- a younger one has had none
  pub younger : (k ≡ 0 → ⊥) → x ≡ 0 → x ≡ cond (eqb k 0) had 0
  younger z e = rw (ne_eqb k 0 z) e

  -- either way
  pub oldest_alone : (k ≡ 0 → x ≡ had) → ((k ≡ 0 → ⊥) → x ≡ 0) → x ≡ cond (eqb k 0) had 0
  oldest_alone e f =
      by_cases (eqb k 0)
      (λ t. let z = eqb-true k 0 t in oldest z (e z))
      (λ t. let z = eqb-false k 0 t in younger z (f z))

-- one run more
pub runs_more : (st : State) (wk : Work) (had i k : ℕ) → runs_left st wk had i k ++ (run_left st wk had i k ∷ []) ≡ runs_left st wk had i (k + 1)
runs_more st wk had i k = ap (runs_left st wk had i) (sym (add-one k))

-- one task more, whose runs are told with its number, from 1
pub left_more : (ss : List Seat) (hs : List ℕ) (k : ℕ) {i : ℕ} → i ≡ suc k
    → let x = get_or ss k no_seat in left_by ss hs k ++ runs_left x.state x.work (get_or hs k 0) i x.state.live ≡ left_by ss hs (k + 1)
left_more ss hs k e = rw e (ap (left_by ss hs) (sym (add-one k)))
