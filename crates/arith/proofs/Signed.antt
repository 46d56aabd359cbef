-- Numbers below 2^63 as an i64, and their difference.
use Prim.Native.Nat.{ℕ, zero, suc, ◌^◌, ◌<◌}
use mathlib.Core.Path.{◌≡◌, refl, sym, ap, ap₂, ◌∙◌}
use native.Mathlib.Omega.{arith}
use native.Mathlib.Nat.{add-zero, sub-zero}
use lib.Dec.{ltb}
use lib.IntN.{pos, sub_ℕ, ◌-ℤ◌}
use lib.Signed.{mag}
use mir.Syntax.{w64}
use mir.Val.{SFits, to_z, of_z}
use mir.ValLaws.{to_z_pos, to_z-of_z}
use borrow.Author.Tests.{le-ltb}
use Rattle.lists.proofs.Tests.{by_cases}

-- the difference of two naturals
pub pos_sub : (a b : ℕ) → pos a -ℤ pos b ≡ sub_ℕ a b
pos_sub a zero = ap pos (add-zero a ∙ sym (sub-zero a)) ∙ sym (rw (le-ltb a 0 (omega arith)))
pos_sub a (suc b) = refl

-- is no further from 0 than they are
sub_mag : (a b n : ℕ) → a < n → b < n → mag (sub_ℕ a b) < n
sub_mag a b n h k = by_cases (ltb a b) (λ e. rw e (omega arith)) (λ e. rw e (omega arith))

-- a number fits
pub pos_fits : (a : ℕ) → a < 2 ^ 63 → SFits w64 (pos a)
pos_fits a h = record { sfits = h }

module _ (a b : ℕ) (h : a < 2 ^ 63) (k : b < 2 ^ 63) where
  -- what the code subtracts
  less_is : to_z w64 a -ℤ to_z w64 b ≡ sub_ℕ a b
  less_is = ap₂ ◌-ℤ◌ (to_z_pos w64 a h) (to_z_pos w64 b k) ∙ pos_sub a b

  -- the difference fits
  pub sub_fits : SFits w64 (to_z w64 a -ℤ to_z w64 b)
  sub_fits = rw less_is (record { sfits = sub_mag a b (2 ^ 63) h k })

  -- and is the difference of the naturals
  pub sub_is : to_z w64 (of_z w64 (to_z w64 a -ℤ to_z w64 b)) ≡ sub_ℕ a b
  sub_is = to_z-of_z w64 (to_z w64 a -ℤ to_z w64 b) sub_fits ∙ less_is
