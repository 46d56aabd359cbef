-- A number that was written is read back.
use Prim.Native.Nat.{ℕ, zero, suc, ◌+◌, ◌*◌, ◌/◌, ◌-◌, ◌<◌}
use mathlib.Core.Path.{◌≡◌, refl, sym, ap, ◌∙◌}
use mathlib.Core.List.{List, [], ◌∷◌, ◌++◌}
use native.Mathlib.Omega.{arith}
use Rattle.writing.specs.Decimal.{decimal_of}
use Rattle.writing.specs.Value.{value_from, value_of}
use Rattle.writing.proofs.Decimal.{either, decimal_small, decimal_large}

-- of two texts: the first, and then the second after it
value_append : (v : ℕ) (xs ys : List ℕ) → value_from v (xs ++ ys) ≡ value_from (value_from v xs) ys
value_append v [] ys = refl
value_append v (x ∷ xs) ys = value_append (v * 10 + (x - 48)) xs ys

-- a number is what its digits make, by its size
value_below : (f n : ℕ) → n < f → value_of (decimal_of n) ≡ n
value_below zero n p = absurd (omega arith)
value_below (suc f) n p =
    either n 10
    (λ h. rw (decimal_small n h) (omega arith))
    (λ h. rw (decimal_large n h, value_append, value_below f (n / 10) (omega arith)) (omega arith))

-- a number is what its digits make
pub value_back : (n : ℕ) → value_of (decimal_of n) ≡ n
value_back n = value_below (suc n) n (omega arith)

-- so no two numbers have the same digits
pub decimal_injective : (m n : ℕ) → decimal_of m ≡ decimal_of n → m ≡ n
decimal_injective m n e = sym (value_back m) ∙ ap value_of e ∙ value_back n
