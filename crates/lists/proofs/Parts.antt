-- Where the positive numbers of a list stand.
use Prim.Native.Nat.{ℕ, zero, suc, ◌+◌, ◌≤◌, ◌<◌}
use mathlib.Core.Path.{◌≡◌, refl, ap}
use mathlib.Core.List.{List, [], ◌∷◌}
use native.Mathlib.Omega.{arith}
use lib.Dec.{ltb, eqb-suc-zero}
use lib.ListN.{get_or, take, drop}
use borrow.Author.Tests.{lt-ltb}
use Rattle.lists.specs.Lists.{total, parts, first_part, bit}
use Rattle.lists.specs.Tabled.{tabled}
use Rattle.lists.proofs.Lists.{parts_cons, parts_le, parts_none, sum_take_suc, sum_ends}

-- those before, at and after a place
pub parts_split : (r : List ℕ) (p : ℕ) → parts r ≡ parts (take p r) + (bit (ltb 0 (get_or r p 0)) + parts (drop (suc p) r))
parts_split [] zero = refl
parts_split [] (suc p) = refl
parts_split (x ∷ r) zero = omega (arith, parts_cons x r)
parts_split (x ∷ r) (suc p) = omega (arith, parts_cons x r, parts_cons x (take p r), parts_split r p)

-- one for each place that has one; there is none from place m on
pub parts_placed : (m : ℕ) (r : List ℕ) → ((p : ℕ) → m ≤ p → get_or r p 0 ≡ 0) → parts r ≡ total (tabled (λ p. bit (ltb 0 (get_or r p 0))) m)
parts_placed zero [] h = refl
parts_placed (suc m) [] h = omega (arith, parts_placed m [] (λ p k. refl))
parts_placed zero (x ∷ r) h =
    omega (arith, parts_cons x r, ap (λ (n : ℕ). bit (ltb 0 n)) (h 0 (omega arith)), parts_placed zero r (λ p k. h (suc p) (omega arith)))
parts_placed (suc m) (x ∷ r) h = omega (arith, parts_cons x r, parts_placed m r (λ p k. h (suc p) (omega arith)))

-- the only one is the sum
pub parts_one : (r : List ℕ) (p : ℕ) → parts r ≡ 1 → 0 < get_or r p 0 → total r ≡ get_or r p 0
parts_one r p e h =
    let b : bit (ltb 0 (get_or r p 0)) ≡ 1 = ap bit (lt-ltb 0 (get_or r p 0) h) in
    let s = parts_split r p in
    omega (arith, parts_none (take p r) (omega arith), parts_none (drop (suc p) r) (omega arith), sum_take_suc r p, sum_ends r (suc p))

-- the first one stands no higher than any other
pub first_le : (r : List ℕ) (p : ℕ) → 0 < get_or r p 0 → first_part r ≤ p
first_le [] p h = absurd (omega arith)
first_le (zero ∷ r) zero h = absurd (omega arith)
first_le (zero ∷ r) (suc p) h = omega (arith, first_le r p h)
first_le (suc x ∷ r) p h = rw (eqb-suc-zero x) (omega arith)

-- none stands below the first
pub first_below : (r : List ℕ) → total (take (first_part r) r) ≡ 0
first_below [] = refl
first_below (zero ∷ r) = omega (arith, first_below r)
first_below (suc x ∷ r) = rw (eqb-suc-zero x)

-- the first is one, if there is any
pub first_has : (r : List ℕ) → 0 < total r → 0 < get_or r (first_part r) 0
first_has [] h = h
first_has (zero ∷ r) h = first_has r (omega arith)
first_has (suc x ∷ r) h = rw (eqb-suc-zero x) (omega arith)

-- and so it is of two or more
pub first_some : (r : List ℕ) → 1 < parts r → 0 < get_or r (first_part r) 0
first_some r h = first_has r (omega (arith, parts_le r))

-- one with none below it is the first
pub first_is : (r : List ℕ) (p : ℕ) → 0 < get_or r p 0 → total (take p r) ≡ 0 → first_part r ≡ p
first_is [] p h e = absurd (omega arith)
first_is (zero ∷ r) zero h e = absurd (omega arith)
first_is (zero ∷ r) (suc p) h e = ap suc (first_is r p h (omega arith))
first_is (suc x ∷ r) zero h e = rw (eqb-suc-zero x)
first_is (suc x ∷ r) (suc p) h e = absurd (omega arith)
