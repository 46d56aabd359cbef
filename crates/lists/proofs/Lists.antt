-- Laws of the small functions on lists.
use Prim.Native.Nat.{ℕ, zero, suc, ◌+◌, ◌-◌, ◌≤◌, ◌<◌}
use mathlib.Core.Path.{◌≡◌, refl, ap, ◌∙◌}
use mathlib.Core.Logic.{⊎_elim}
use mathlib.Core.List.{List, [], ◌∷◌}
use native.Mathlib.Omega.{arith}
use native.Mathlib.Nat.{sub-zero, zero-sub, suc-sub-suc}
use lib.Dec.{ltb, leb, eqb-suc-zero}
use lib.ListN.{length, get_or, take, drop, set}
use borrow.Author.Tests.{ltb-true, ltb-false, lt-ltb, leb-true, leb-false}
use Rattle.std.specs.Prelude.{sum}
use Rattle.std.proofs.lemmas.List.Sums.{sum_by-cons}
use Rattle.lists.specs.Lists.{zeros, total, most, at_most, parts, bit}
use Rattle.lists.proofs.Tests.{by_cases, bit_cases}

-- the sum of the first p + 1 numbers
pub sum_take_suc : (xs : List ℕ) (p : ℕ) → total (take (suc p) xs) ≡ total (take p xs) + get_or xs p 0
sum_take_suc [] zero = refl
sum_take_suc [] (suc p) = refl
sum_take_suc (x ∷ xs) zero = omega arith
sum_take_suc (x ∷ xs) (suc p) = omega (arith, sum_take_suc xs p)

-- the sum of both ends of a list
pub sum_ends : (xs : List ℕ) (p : ℕ) → total (take p xs) + total (drop p xs) ≡ total xs
sum_ends [] zero = refl
sum_ends [] (suc p) = refl
sum_ends (x ∷ xs) zero = omega arith
sum_ends (x ∷ xs) (suc p) = omega (arith, sum_ends xs p)

pub sum_set : (xs : List ℕ) (p v : ℕ) → p < length xs → total (set xs p v) + get_or xs p 0 ≡ total xs + v
sum_set [] p v h = absurd (omega arith)
sum_set (x ∷ xs) zero v h = omega arith
sum_set (x ∷ xs) (suc p) v h = omega (arith, sum_set xs p v (omega arith))

pub get_or_le_sum : (xs : List ℕ) (p : ℕ) → get_or xs p 0 ≤ total xs
get_or_le_sum [] p = omega arith
get_or_le_sum (x ∷ xs) zero = omega arith
get_or_le_sum (x ∷ xs) (suc p) = omega (arith, get_or_le_sum xs p)

pub most_ge : (xs : List ℕ) (p : ℕ) → get_or xs p 0 ≤ most xs
most_ge [] p = omega arith
most_ge (x ∷ xs) zero = omega arith
most_ge (x ∷ xs) (suc p) = omega (arith, most_ge xs p)

pub most_some : (xs : List ℕ) (x : ℕ) → x < most xs → 0 < length xs
most_some [] x h = omega arith
most_some (y ∷ ys) x h = omega arith

pub at_most_is : (xs : List ℕ) → get_or xs (at_most xs) 0 ≡ most xs
at_most_is [] = refl
at_most_is (x ∷ xs) =
    by_cases (leb (most xs) x)
    (λ e. rw e (omega (arith, leb-true (most xs) x e)))
    (λ e. rw e (omega (arith, leb-false (most xs) x e, at_most_is xs)))

pub at_most_lt : (xs : List ℕ) → 0 < length xs → at_most xs < length xs
at_most_lt [] h = h
at_most_lt (x ∷ xs) h =
    by_cases (leb (most xs) x)
    (λ e. rw e (omega arith))
    (λ e. rw e (omega (arith, at_most_lt xs (most_some xs x (leb-false (most xs) x e)))))

-- what stands before the first largest number is less
pub at_most_first : (xs : List ℕ) (p : ℕ) → p < at_most xs → get_or xs p 0 < most xs
at_most_first [] p h = absurd (omega arith)
at_most_first (x ∷ xs) zero h =
    by_cases (leb (most xs) x)
    (λ e. absurd (omega (arith, rw e at h)))
    (λ e. omega (arith, leb-false (most xs) x e))
at_most_first (x ∷ xs) (suc p) h =
    by_cases (leb (most xs) x)
    (λ e. absurd (omega (arith, rw e at h)))
    (λ e. omega (arith, at_most_first xs p (omega (arith, rw e at h))))

pub zeros_at : (m p : ℕ) → get_or (zeros m) p 0 ≡ 0
zeros_at zero p = refl
zeros_at (suc m) zero = refl
zeros_at (suc m) (suc p) = zeros_at m p

-- what is left of zeros is zeros
pub zeros_drop : (m p : ℕ) → drop p (zeros m) ≡ zeros (m - p)
zeros_drop m zero = rw (sub-zero m)
zeros_drop zero (suc p) = rw (zero-sub (suc p))
zeros_drop (suc m) (suc p) = rw (suc-sub-suc m p) (zeros_drop m p)

pub zeros_sum : (m : ℕ) → total (zeros m) ≡ 0
zeros_sum zero = refl
zeros_sum (suc m) = omega (arith, zeros_sum m)

pub zeros_parts : (m : ℕ) → parts (zeros m) ≡ 0
zeros_parts zero = refl
zeros_parts (suc m) = zeros_parts m

pub zeros_most : (m : ℕ) → most (zeros m) ≡ 0
zeros_most zero = refl
zeros_most (suc m) = omega (arith, zeros_most m)

pub parts_cons : (x : ℕ) (r : List ℕ) → parts (x ∷ r) ≡ bit (ltb 0 x) + parts r
parts_cons zero r = omega arith
parts_cons (suc x) r = rw (eqb-suc-zero x, lt-ltb 0 (suc x) (omega arith)) (omega arith)

pub parts_le : (r : List ℕ) → parts r ≤ total r
parts_le [] = omega arith
parts_le (x ∷ r) =
    ⊎_elim
    (λ h. omega (arith, parts_cons x r, parts_le r, ltb-true 0 x h.0))
    (λ h. omega (arith, parts_cons x r, parts_le r))
    (bit_cases (ltb 0 x))

pub parts_some : (r : List ℕ) → 0 < total r → 0 < parts r
parts_some [] h = h
parts_some (x ∷ r) h =
    ⊎_elim
    (λ k. omega (arith, parts_cons x r))
    (λ k. omega (arith, parts_cons x r, ltb-false 0 x k.0, parts_some r (omega (arith, ltb-false 0 x k.0))))
    (bit_cases (ltb 0 x))

pub parts_most : (r : List ℕ) → 0 < parts r → 0 < most r
parts_most [] h = h
parts_most (x ∷ r) h =
    ⊎_elim
    (λ k. omega (arith, ltb-true 0 x k.0))
    (λ k. omega (arith, parts_most r (omega (arith, parts_cons x r))))
    (bit_cases (ltb 0 x))

pub parts_none : (r : List ℕ) → parts r ≡ 0 → total r ≡ 0
parts_none r e = by_cases (ltb 0 (total r)) (λ h. absurd (omega (arith, parts_some r (ltb-true 0 (total r) h)))) (λ h. omega (arith, ltb-false 0 (total r) h))

pub parts_set : (ws : List ℕ) (t : ℕ) → 0 < get_or ws t 0 → suc (parts (set ws t 0)) ≡ parts ws
parts_set [] t h = absurd (omega arith)
parts_set (w ∷ ws) zero h = omega (arith, parts_cons w ws, ap bit (lt-ltb 0 w h))
parts_set (w ∷ ws) (suc t) h = omega (arith, parts_cons w ws, parts_cons w (set ws t 0), parts_set ws t h)

pub parts_len : (r : List ℕ) → parts r ≤ length r
parts_len [] = omega arith
parts_len (x ∷ r) = ⊎_elim (λ h. omega (arith, parts_cons x r, parts_len r)) (λ h. omega (arith, parts_cons x r, parts_len r)) (bit_cases (ltb 0 x))

-- the sum is the library's
pub total_is : (xs : List ℕ) → sum xs ≡ total xs
total_is [] = refl
total_is (x ∷ xs) = sum_by-cons (λ (y : ℕ). y) x xs ∙ ap (λ (n : ℕ). x + n) (total_is xs)
