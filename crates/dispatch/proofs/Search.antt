-- The search for a core's choice finds the task with the least key of those that wait there, the lowest at a tie, or that none waits.
-- Tasks are counted from 0 here.
use Prim.Native.Nat.{ℕ, zero, suc, ◌+◌, ◌≤◌, ◌<◌}
use mathlib.Core.Path.{◌≡◌, refl}
use mathlib.Core.Bool.{Bool, true, false, cond, ◌&&◌, ◌||◌, false≢true}
use native.Mathlib.Omega.{arith}
use native.Mathlib.Numerals.{add-one}
use borrow.Author.Count.{below_more}
use borrow.Author.Tests.{ltb-true, ltb-false}
use lib.Dec.{ltb, eqb, eqb-suc-zero}
use Rattle.task_state.specs.Key.{waits, key_of}
use Rattle.dispatch.specs.declared.Record.{Record}
use Rattle.core_choice.specs.declared.Best.{Best}
use Rattle.dispatch.specs.Record.{line_at, state_at}
use Rattle.dispatch.specs.Look.{best_of}

-- task i's oldest unfinished run is on core k and released
abbrev pub WaitsAt : Record → ℕ → ℕ → Type 0
WaitsAt r k i = waits (line_at r i) (state_at r i) k r.clock.0 ≡ true

-- its key there
abbrev pub key_at : Record → ℕ → ℕ → ℕ
key_at r k i = key_of (line_at r i) (state_at r i) k

-- of the first n tasks, task j has the least key of those that wait on core k, and the lowest number at a tie
pub record Least (r : Record) (k n j : ℕ) : Type 0 where
  pub within : j < n
  pub waiting : WaitsAt r k j
  pub least : (i : ℕ) → i < n → WaitsAt r k i → key_at r k j ≤ key_at r k i
  pub lowest : (i : ℕ) → i < j → WaitsAt r k i → key_at r k j < key_at r k i

-- after n tasks, by the task that was found, from 1, and its key
abbrev pub Found : Record → ℕ → ℕ → ℕ → ℕ → Type 0
Found r k n zero d = (i : ℕ) → i < n → waits (line_at r i) (state_at r i) k r.clock.0 ≡ false
Found r k n (suc j) d = (d ≡ key_at r k j) × Least r k n j

module _ (r : Record) (k : ℕ) where
  -- the next task is taken: it waits, and its key is less than that of each that waits so far
  taken : (n : ℕ) → WaitsAt r k n → ((i : ℕ) → i < n → WaitsAt r k i → key_at r k n < key_at r k i) → Least r k (n + 1) n
  taken n w h = record {
    within = omega arith;
    waiting = w;
    least = below_more _ n (λ i l p. omega (arith, h i l p)) (λ p. omega arith);
    lowest = h;
  }

  -- it is not: it does not wait, or its key is no less than that of the one found
  kept : (n j : ℕ) → Least r k n j → (WaitsAt r k n → key_at r k j ≤ key_at r k n) → Least r k (n + 1) j
  kept n j c h = record {
    within = omega (arith, c.within);
    waiting = c.waiting;
    least = below_more _ n c.least h;
    lowest = c.lowest;
  }

  -- and so by the two tests of the definition
  found_one : (n task d : ℕ) (w l : Bool) → waits (line_at r n) (state_at r n) k r.clock.0 ≡ w → ltb (key_at r k n) d ≡ l → Found r k n task d
      → let b : Best = cond (w && (eqb task 0 || l)) (record { task = suc n; key = key_at r k n }) (record { task = task; key = d }) in
      Found r k (n + 1) b.task b.key
  found_one n zero d false l p q f = below_more _ n f p
  found_one n (suc j) d false l p q f = (f.0, kept n j f.1 (λ w. absurd (false≢true (cc))))
  found_one n zero d true l p q f = (refl, taken n p (λ i m w. absurd (false≢true (cc (f i m)))))
  found_one n (suc j) d true true p q f =
      rw (eqb-suc-zero j) (refl, taken n p (λ i m w. omega (arith, ltb-true (key_at r k n) d q, f.0, f.1.least i m w)))
  found_one n (suc j) d true false p q f =
      rw (eqb-suc-zero j) (f.0, kept n j f.1 (λ w. omega (arith, ltb-false (key_at r k n) d q, f.0)))

  -- after any number
  pub found : (n : ℕ) → Found r k n (best_of r k n).task (best_of r k n).key
  unfolding best_of
  found zero = λ i l. absurd (omega arith)
  found (suc n) =
      rw (add-one n) at (found_one n (best_of r k n).task (best_of r k n).key (waits (line_at r n) (state_at r n) k r.clock.0)
      (ltb (key_at r k n) (best_of r k n).key) refl refl (found n))
