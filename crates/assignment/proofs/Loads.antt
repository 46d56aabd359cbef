-- A core's load is its fixed tasks' and its movers', and its movers are its upper and its lower ones.
use Prim.Native.Nat.{ℕ, zero, suc, ◌+◌, ◌<◌}
use mathlib.Core.Path.{◌≡◌, refl, ◌∙◌}
use mathlib.Core.Bool.{Bool, true, false, not, ◌&&◌}
use mathlib.Core.List.{List, [], ◌∷◌}
use native.Mathlib.Omega.{arith}
use lib.Dec.{ltb, eqb}
use lib.ListN.{get_or}
use borrow.Author.Tests.{ltb-true, lt-ltb, ne_eqb}
use Rattle.lists.specs.Lists.{total, parts, bit, val}
use Rattle.lists.specs.Rows.{fold, how_many, column, column_of}
use Rattle.lists.proofs.Tests.{by_cases}
use Rattle.lists.proofs.Lists.{get_or_le_sum, parts_some}
use Rattle.task_shares.specs.Movers.{has, first_core, fixed_on, moves_on, lower, upper}
use Rattle.task_shares.proofs.Words.{fixed_says}

-- a test and its contrary
bit_split : (a b : Bool) → bit (a && not b) + bit (a && b) ≡ bit a
bit_split true true = refl
bit_split true false = refl
bit_split false b = refl

-- and what they let through
val_split : (a b : Bool) (n : ℕ) → val (a && not b) n + val (a && b) n ≡ val a n
val_split true true n = omega arith
val_split true false n = omega arith
val_split false b n = refl

-- a number counts where it is positive
val_positive : (n : ℕ) → val (ltb 0 n) n ≡ n
val_positive zero = refl
val_positive (suc n) = rw (lt-ltb 0 (suc n) (omega arith))

-- of n shares: one, or more
one_or_more : (n x : ℕ) (b : Bool) → (b ≡ true → 0 < n) → val (eqb n 1 && b) x + val (ltb 1 n && b) x ≡ val b x
one_or_more zero x true h = absurd (omega (arith, h refl))
one_or_more zero x false h = refl
one_or_more (suc zero) x b h = omega arith
one_or_more (suc (suc n)) x b h = rw (lt-ltb 1 (suc (suc n)) (omega arith), ne_eqb (suc (suc n)) 1 (λ e. omega arith)) (omega arith)

module _ (p : ℕ) where
  -- a mover is upper or lower
  pub movers_row : (r : List ℕ) → bit (upper p r) + bit (lower p r) ≡ bit (moves_on p r)
  movers_row r = bit_split (moves_on p r) (eqb (first_core r) p)

  -- a share is a fixed task's or a mover's
  shares_row : (r : List ℕ) → val (fixed_on p r) (get_or r p 0) + val (moves_on p r) (get_or r p 0) ≡ get_or r p 0
  shares_row r =
      one_or_more (parts r) (get_or r p 0) (has p r) (λ h. parts_some r (omega (arith, ltb-true 0 (get_or r p 0) h, get_or_le_sum r p)))
      ∙ val_positive (get_or r p 0)

  -- a fixed task's share is its weight
  fixed_row : (r : List ℕ) → val (fixed_on p r) (total r) ≡ val (fixed_on p r) (get_or r p 0)
  fixed_row r = by_cases (fixed_on p r) (λ e. rw e (fixed_says p r e)) (λ e. rw e)

  -- the movers on a core, counted
  pub count_movers : (tab : List (List ℕ)) → how_many (upper p) tab + how_many (lower p) tab ≡ how_many (moves_on p) tab
  count_movers [] = refl
  count_movers (r ∷ tab) = omega (arith, movers_row r, count_movers tab)

  -- and their shares
  pub column_movers : (tab : List (List ℕ)) → column_of (upper p) p tab + column_of (lower p) p tab ≡ column_of (moves_on p) p tab
  column_movers [] = refl
  column_movers (r ∷ tab) = omega (arith, val_split (moves_on p r) (eqb (first_core r) p) (get_or r p 0), column_movers tab)

  -- the fixed tasks' weights and the movers' shares
  pub column_all : (tab : List (List ℕ)) → fold ◌+◌ (λ r. val (fixed_on p r) (total r)) tab + column_of (moves_on p) p tab ≡ column p tab
  column_all [] = refl
  column_all (r ∷ tab) = omega (arith, fixed_row r, shares_row r, column_all tab)
