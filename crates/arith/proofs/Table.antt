-- A table walked task by task: its periods, and what each turn of the walk does to the answer.
use Prim.Native.Nat.{ℕ, zero, suc, ◌+◌, ◌*◌, ◌/◌, ◌≤◌, ◌<◌}
use mathlib.Core.Path.{◌≡◌, refl}
use mathlib.Core.List.{List, [], ◌∷◌}
use native.Mathlib.Numerals.{add-one}
use native.Mathlib.Omega.{arith}
use borrow.Author.Tests.{lt-ltb, le-ltb}
use lib.ListN.{length, get_or, drop, drop_of_length-le}
use lib.Seq.{drop-cons}
use Rattle.std.proofs.Common.{Ok, Err}
use Rattle.units.specs.Limits.{common_limit}
use Rattle.arith.specs.Divisor.{lcm}
use Rattle.arith.specs.Period.{periods, period_from}

-- two numbers of the table are a task
pub periods_length : (xs : List ℕ) → length (periods xs) ≡ length xs / 2
periods_length [] = refl
periods_length (c ∷ []) = refl
periods_length (c ∷ t ∷ xs) = omega (arith, periods_length xs)

-- the second of them is its period
pub periods_at : (xs : List ℕ) (k : ℕ) → get_or (periods xs) k 0 ≡ get_or xs (2 * k + 1) 0
periods_at [] k = refl
periods_at (c ∷ []) zero = refl
periods_at (c ∷ []) (suc k) = let e : 2 * suc k + 1 ≡ suc (suc (2 * k + 1)) = omega arith in rw e
periods_at (c ∷ t ∷ xs) zero = refl
periods_at (c ∷ t ∷ xs) (suc k) = let e : 2 * suc k + 1 ≡ suc (suc (2 * k + 1)) = omega arith in rw e (periods_at xs k)

-- the periods from task k on
drop_period : (xs : List ℕ) (k : ℕ) → k < length xs / 2 → drop k (periods xs) ≡ get_or xs (2 * k + 1) 0 ∷ drop (k + 1) (periods xs)
drop_period xs k h = rw (← (periods_at xs k), add-one k) (drop-cons (periods xs) k 0 (omega (arith, periods_length xs)))

module _ (xs : List ℕ) (l m k : ℕ) (h : k < length xs / 2) (e : m ≡ lcm l (get_or xs (2 * k + 1) 0)) where
  -- a period with which the common period m stays within the limit
  pub period_next : m ≤ common_limit → period_from l (k + 1) (drop k (periods xs)) ≡ period_from m (k + 1 + 1) (drop (k + 1) (periods xs))
  period_next b = rw (drop_period xs k h, ← e, le-ltb common_limit m b, add-one (k + 1))

  -- one with which it does not
  pub period_stop : common_limit < m → period_from l (k + 1) (drop k (periods xs)) ≡ Err (k + 1)
  period_stop b = rw (drop_period xs k h, ← e, lt-ltb common_limit m b)

-- the end of the table
pub period_end : (xs : List ℕ) (l k : ℕ) → length xs / 2 ≤ k → period_from l (k + 1) (drop k (periods xs)) ≡ Ok l
period_end xs l k h = rw (drop_of_length-le (periods xs) {i = k} (omega (arith, periods_length xs)))
