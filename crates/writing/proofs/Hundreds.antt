-- A number's digits two at a time.
use Prim.Native.Nat.{ℕ, ◌+◌, ◌/◌, ◌%◌, ◌≤◌, ◌<◌}
use mathlib.Core.Path.{◌≡◌, ap, ◌∙◌}
use mathlib.Core.List.{List, [], ◌∷◌, ◌++◌, append_assoc}
use native.Mathlib.Omega.{arith}
use Rattle.writing.specs.Inner.{two_digits, four_digits}
use Rattle.writing.specs.Decimal.{decimal_of}
use Rattle.writing.proofs.Decimal.{decimal_small, decimal_large}

-- a number of two digits is those two
pub decimal_two : (n : ℕ) → 10 ≤ n → n < 100 → decimal_of n ≡ two_digits n
decimal_two n l h = decimal_large n l ∙ ap (λ (ds : List ℕ). ds ++ ((48 + n % 10) ∷ [])) (decimal_small (n / 10) (omega arith))

-- a longer one is its hundredth and then two digits
pub decimal_hundreds : (n : ℕ) → 100 ≤ n → decimal_of n ≡ decimal_of (n / 100) ++ two_digits (n % 100)
decimal_hundreds n h =
    let hundredth : n / 10 / 10 ≡ n / 100 = omega arith in
    let tens : n / 10 % 10 ≡ n % 100 / 10 = omega arith in
    let ones : n % 10 ≡ n % 100 % 10 = omega arith in
    decimal_large n (omega arith)
    ∙ ap (λ (ds : List ℕ). ds ++ ((48 + n % 10) ∷ [])) (decimal_large (n / 10) (omega arith))
    ∙ append_assoc (decimal_of (n / 10 / 10)) ((48 + n / 10 % 10) ∷ []) ((48 + n % 10) ∷ [])
    ∙ rw (hundredth, tens, ones)

-- so one of five digits or more is its ten-thousandth and then four
pub decimal_ten_thousands : (n : ℕ) → 10000 ≤ n → decimal_of n ≡ decimal_of (n / 10000) ++ four_digits (n % 10000)
decimal_ten_thousands n h =
    let whole : n / 100 / 100 ≡ n / 10000 = omega arith in
    let upper : n / 100 % 100 ≡ n % 10000 / 100 = omega arith in
    let lower : n % 100 ≡ n % 10000 % 100 = omega arith in
    decimal_hundreds n (omega arith)
    ∙ ap (λ (ds : List ℕ). ds ++ two_digits (n % 100)) (decimal_hundreds (n / 100) (omega arith))
    ∙ append_assoc (decimal_of (n / 100 / 100)) (two_digits (n / 100 % 100)) (two_digits (n % 100))
    ∙ rw (whole, upper, lower)
