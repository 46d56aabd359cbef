-- One task more: what its row of shares adds to a core's sums, by its standing there.
use Prim.Native.Nat.{ℕ, ◌+◌, ◌<◌, max}
use mathlib.Core.Path.{◌≡◌, refl, ap}
use mathlib.Core.Bool.{true, false}
use mathlib.Core.List.{List, ◌∷◌}
use native.Mathlib.Omega.{arith}
use lib.Dec.{ltb, eqb}
use lib.ListN.{length, get_or, get_or-eq_default}
use borrow.Author.Tests.{ltb-true, ltb-false, lt-ltb, le-ltb, eqb-true}
use Rattle.lists.specs.Lists.{total, parts, bit, val}
use Rattle.lists.proofs.Tests.{by_cases}
use Rattle.lists.proofs.Lists.{get_or_le_sum, parts_le}
use Rattle.lists.proofs.Parts.{parts_split, parts_one, first_some}
use Rattle.task_shares.specs.Movers.{has, moves, first_core, fixed_on, moves_on, lower}
use Rattle.task_shares.proofs.Stands.{moves_stands, lower_stands, fixed_stands}
use Rattle.soundness.specs.declared.sums.Sums.{Sums}
use Rattle.soundness.specs.Inner.{load_at, fixed_at, movers_at, firsts_at, heaviest_at, SumsAt, OneMore}

-- the one share of a fixed task is its weight
fixed_adds : (p : ℕ) (row : List ℕ) → moves row ≡ false
    → (val (fixed_on p row) (total row) ≡ get_or row p 0) × (moves_on p row ≡ false) × (lower p row ≡ false)
fixed_adds p row e =
    let few = ltb-false 1 (parts row) e in
    rw (lower_stands p row, moves_stands p row, fixed_stands p row, e)
    (by_cases (has p row)
    (λ h. rw h (parts_one row p (omega (arith, few, parts_split row p, ap bit h)) (ltb-true 0 (get_or row p 0) h), refl, refl))
    (λ h. rw h (omega (arith, ltb-false 0 (get_or row p 0) h), refl, refl)))

module _ (row : List ℕ) (e : moves row ≡ true) where
  -- a mover has a share on its first core
  share_there : 0 < get_or row (first_core row) 0
  share_there = first_some row (ltb-true 1 (parts row) e)

  -- which is one of the row's
  pub first_there : first_core row < length row
  first_there =
      by_cases (ltb (first_core row) (length row))
      (λ t. ltb-true (first_core row) (length row) t)
      (λ t. absurd (omega (arith, share_there, get_or-eq_default row 0 {n = first_core row} (ltb-false (first_core row) (length row) t))))

  -- it is counted where it has a share, and once as first
  mover_adds : (p : ℕ) → (fixed_on p row ≡ false) × (moves_on p row ≡ has p row) × (lower p row ≡ eqb (first_core row) p)
  mover_adds p =
      rw (lower_stands p row, moves_stands p row, fixed_stands p row, e)
      (by_cases (eqb (first_core row) p)
      (λ t. rw (t, lt-ltb 0 (get_or row p 0) (rw (eqb-true (first_core row) p t) at share_there)) (refl, refl, refl))
      (λ t. rw t (by_cases (has p row) (λ h. rw h (refl, refl, refl)) (λ h. rw h (refl, refl, refl)))))

-- the core with a fixed task more
pub fixed_more : (row : List ℕ) (tab : List (List ℕ)) (old now : Sums) (p : ℕ) → moves row ≡ false → SumsAt tab old p
    → load_at now p ≡ load_at old p + get_or row p 0 → fixed_at now p ≡ max (fixed_at old p) (get_or row p 0)
    → movers_at now p ≡ movers_at old p → firsts_at now p ≡ firsts_at old p → heaviest_at now p ≡ heaviest_at old p → SumsAt (row ∷ tab) now p
fixed_more row tab old now p e was l f m n h =
    let a = fixed_adds p row e in
    record {
      load = omega (arith, l, was.load);
      fixed = omega (arith, f, a.0, was.fixed);
      movers = rw a.1 (omega (arith, m, was.movers));
      firsts = rw a.2 (omega (arith, n, was.firsts));
      heaviest = rw a.1 (omega (arith, h, was.heaviest));
    }

-- with a mover more
pub mover_more : (row : List ℕ) (tab : List (List ℕ)) (old now : Sums) (p : ℕ) → moves row ≡ true → SumsAt tab old p
    → load_at now p ≡ load_at old p + get_or row p 0 → fixed_at now p ≡ fixed_at old p
    → movers_at now p ≡ movers_at old p + bit (has p row) → firsts_at now p ≡ firsts_at old p + bit (eqb (first_core row) p)
    → heaviest_at now p ≡ max (heaviest_at old p) (val (has p row) (total row)) → SumsAt (row ∷ tab) now p
mover_more row tab old now p e was l f m n h =
    let a = mover_adds row e p in
    record {
      load = omega (arith, l, was.load);
      fixed = rw a.0 (omega (arith, f, was.fixed));
      movers = rw a.1 (omega (arith, m, was.movers));
      firsts = rw a.2 (omega (arith, n, was.firsts));
      heaviest = rw a.1 (omega (arith, h, was.heaviest));
    }

-- with a row of no share
pub none_more : (row : List ℕ) (s : Sums) → total row ≡ 0 → OneMore row s s
none_more row s z tab was p h =
    let none : get_or row p 0 ≡ 0 = omega (arith, z, get_or_le_sum row p) in
    fixed_more row tab s s p (le-ltb 1 (parts row) (omega (arith, z, parts_le row))) (was p h) (omega (arith, none)) (omega (arith, none)) refl refl refl
