-- Zeros after a list: its largest number, its positive numbers and what is changed in it stay where they are.
use Prim.Native.Nat.{ℕ, zero, suc, ◌<◌}
use mathlib.Core.Path.{◌≡◌, refl, ap}
use mathlib.Core.List.{List, [], ◌∷◌, ◌++◌}
use native.Mathlib.Omega.{arith}
use lib.ListN.{length, set, length-replicate}
use Rattle.lists.specs.Lists.{zeros, at_most, parts}
use Rattle.lists.proofs.Lists.{zeros_most, zeros_parts}
use Rattle.admission.proofs.Padded.{most_zeros}

-- the first of zeros is the largest
at_most_none : (k : ℕ) → at_most (zeros k) ≡ 0
at_most_none zero = refl
at_most_none (suc k) = rw (zeros_most k)

module _ (k : ℕ) where
  -- the largest number stands where it stood
  pub at_most_zeros : (xs : List ℕ) → at_most (xs ++ zeros k) ≡ at_most xs
  at_most_zeros [] = at_most_none k
  at_most_zeros (x ∷ xs) = rw (most_zeros xs k, at_most_zeros xs)

  -- no more are positive
  pub parts_zeros : (xs : List ℕ) → parts (xs ++ zeros k) ≡ parts xs
  parts_zeros [] = zeros_parts k
  parts_zeros (x ∷ xs) = rw (parts_zeros xs)

  -- a number is changed in the list itself
  pub set_zeros : (xs : List ℕ) (p v : ℕ) → p < length xs → set (xs ++ zeros k) p v ≡ set xs p v ++ zeros k
  set_zeros [] p v h = absurd (omega arith)
  set_zeros (x ∷ xs) zero v h = refl
  set_zeros (x ∷ xs) (suc p) v h = ap (λ (ys : List ℕ). x ∷ ys) (set_zeros xs p v (omega arith))

  -- as many zeros as there are numbers in both
  pub long_zeros : (xs : List ℕ) → zeros (length (xs ++ zeros k)) ≡ zeros (length xs) ++ zeros k
  long_zeros [] = rw (length-replicate {A = ℕ} k 0)
  long_zeros (x ∷ xs) = ap (λ (ys : List ℕ). 0 ∷ ys) (long_zeros xs)
