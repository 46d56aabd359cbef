-- What the common period's two answers say: `Ok` that it is within its limit, `Err` which task takes it over first.
use Prim.Native.Nat.{ℕ, zero, suc, ◌+◌, ◌≤◌, ◌<◌}
use mathlib.Core.Path.{◌≡◌, refl, ap}
use mathlib.Core.List.{List, [], ◌∷◌}
use native.Mathlib.Omega.{arith}
use borrow.Author.Tests.{ltb-true, ltb-false}
use lib.Dec.{ltb}
use lib.ListN.{length, take}
use lib.Seq.{take-nil, take-length}
use Rattle.std.proofs.Common.{Result, Ok, Err}
use Rattle.lists.proofs.Tests.{by_cases}
use Rattle.units.specs.Limits.{common_limit}
use Rattle.arith.specs.Divisor.{lcm}
use Rattle.arith.specs.Period.{common_from, common, period_from, period_of, TakesOver}
use Rattle.arith.proofs.Common.{Each, common_grows}

-- with the common period l of the tasks before, that of up to n of these tasks is within the limit
abbrev Within : ℕ → List ℕ → ℕ → Type 0
Within l ts n = (j : ℕ) → j ≤ n → common_from l (take j ts) ≤ common_limit

-- with i of these tasks it is, with one more it is not
record Found (l : ℕ) (ts : List ℕ) (i : ℕ) : Type 0 where
  to : i < length ts
  within : Within l ts i
  over : common_limit < common_from l (take (suc i) ts)

-- what an answer should say that counts these tasks from k
abbrev Says : ℕ → ℕ → List ℕ → Result ℕ ℕ → Type 0
Says l k ts (Ok m) = (m ≡ common_from l ts) × Within l ts (length ts)
Says l k ts (Err n) = (i : ℕ) × (n ≡ k + i) × Found l ts i

module _ (l t : ℕ) (ts : List ℕ) (h : l ≤ common_limit) where
  -- a task more at the front
  within_more : (n : ℕ) → Within (lcm l t) ts n → Within l (t ∷ ts) (suc n)
  within_more n w zero b = h
  within_more n w (suc j) b = w j (omega arith)

  -- an answer to the later tasks is one to all of them
  says_more : (k : ℕ) (p : Result ℕ ℕ) → Says (lcm l t) (suc k) ts p → Says l k (t ∷ ts) p
  says_more k (Ok m) s = (s.0, within_more (length ts) s.1)
  says_more k (Err n) s =
      (suc s.0, omega arith, record { to = omega (arith, s.2.to); within = within_more s.0 s.2.within; over = s.2.over })

  -- a task that takes the common period over the limit is the answer
  says_here : (k : ℕ) → common_limit < lcm l t → Says l k (t ∷ ts) (Err k)
  says_here k b = (0, omega arith, record { to = omega arith; within = none; over = b })
    where
      none : Within l (t ∷ ts) 0
      none zero c = h
      none (suc j) c = absurd (omega arith)

-- every answer says what it should
says : (l k : ℕ) (ts : List ℕ) → l ≤ common_limit → Says l k ts (period_from l k ts)
says l k [] h = (refl, λ j b. rw (take-nil j) h)
says l k (t ∷ ts) h =
    by_cases (ltb common_limit (lcm l t))
    (λ e. rw e (says_here l t ts h k (ltb-true common_limit (lcm l t) e)))
    (λ e. rw e (says_more l t ts h k (period_from (lcm l t) (suc k) ts) (says (lcm l t) (suc k) ts (ltb-false common_limit (lcm l t) e))))

-- and so for all tasks of a table
answer : (ts : List ℕ) (p : Result ℕ ℕ) → period_of ts ≡ p → Says 1 1 ts p
unfolding period_of
answer ts p e = rw e at (says 1 1 ts (omega arith))

-- a common period that is answered is that of all tasks, and within the limit
pub period_common : (ts : List ℕ) (l : ℕ) → period_of ts ≡ Ok l → (l ≡ common ts) × (l ≤ common_limit)
unfolding common
period_common ts l e =
    let s = answer ts (Ok l) e in
    (s.0, rw s.0 (rw (take-length ts) at (s.1 (length ts) (omega arith))))

-- a task that is answered is the first that takes it over
pub period_over : (ts : List ℕ) (k : ℕ) → period_of ts ≡ Err k → TakesOver ts k
unfolding common
period_over ts k e =
    let s = answer ts (Err k) e in
    let q : k ≡ suc s.0 = omega arith in
    record {
      from = omega arith;
      to = omega (arith, s.2.to);
      before = λ j b. s.2.within j (omega arith);
      over = rw q s.2.over;
    }

-- no other task stands before the first
first_least : (ts : List ℕ) (n k : ℕ) → TakesOver ts n → TakesOver ts k → n ≤ k
first_least ts n k f g =
    by_cases (ltb k n)
    (λ e. absurd (omega (arith, f.before k (ltb-true k n e), g.over)))
    (λ e. ltb-false k n e)

-- the first that takes it over is answered
pub over_period : (ts : List ℕ) (k : ℕ) → TakesOver ts k → period_of ts ≡ Err k
unfolding common
over_period ts k f = go (period_of ts) refl
  where
    go : (p : Result ℕ ℕ) → period_of ts ≡ p → p ≡ Err k
    go (Ok l) q = absurd (omega (arith, (answer ts (Ok l) q).1 k f.to, f.over))
    go (Err n) q = ap Err (omega (arith, first_least ts n k (period_over ts n q) f, first_least ts k n f (period_over ts n q)))

module _ (ts : List ℕ) (e : Each (λ t. 0 < t) ts) where
  -- where a task is answered, the common period of all tasks is over the limit
  pub over_large : (k : ℕ) → period_of ts ≡ Err k → common_limit < common ts
  over_large k q = omega (arith, (period_over ts k q).over, common_grows ts k e)

  -- a common period within the limit is answered
  pub common_period_lem : common ts ≤ common_limit → period_of ts ≡ Ok (common ts)
  common_period_lem h = go (period_of ts) refl
    where
      go : (p : Result ℕ ℕ) → period_of ts ≡ p → p ≡ Ok (common ts)
      go (Ok l) q = ap Ok (period_common ts l q).0
      go (Err k) q = absurd (omega (arith, over_large k q))

  -- where it is over the limit, a task is answered
  pub large_over : common_limit < common ts → (k : ℕ) × (period_of ts ≡ Err k)
  large_over h = go (period_of ts) refl
    where
      go : (p : Result ℕ ℕ) → period_of ts ≡ p → (k : ℕ) × (period_of ts ≡ Err k)
      go (Ok l) q = absurd (omega (arith, period_common ts l q))
      go (Err k) q = (k, q)
