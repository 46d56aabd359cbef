-- A signed number's text, by whether it is below 0; it went through a word of the machine as y.
use Prim.Native.Nat.{ℕ, zero, suc, ◌<◌, ◌^◌}
use mathlib.Core.Path.{◌≡◌, refl, ap, ◌∙◌}
use mathlib.Core.Bool.{true, false}
use mathlib.Core.List.{◌∷◌}
use native.Mathlib.Omega.{arith}
use lib.IntN.{ℤ, pos, negsuc, neg_ℤ, nat_abs}
use lib.Signed.{lt_z}
use borrow.Author.Tests.{ltb-true}
use mir.Syntax.{w64}
use mir.Val.{SFits}
use Rattle.writing.specs.Decimal.{decimal_of, signed_of}

-- a number that fits does so below 0 too
pub neg_fits : (n : ℕ) → n < 2 ^ 63 → SFits w64 (neg_ℤ (pos n))
neg_fits zero h = record { sfits = h }
neg_fits (suc n) h = record { sfits = omega arith }

below : (z : ℤ) → lt_z z (pos 0) ≡ true → 45 ∷ decimal_of (nat_abs z) ≡ signed_of z
unfolding signed_of
below (pos n) t = absurd (omega (arith, ltb-true n 0 t))
below (negsuc n) t = refl

above : (z : ℤ) → lt_z z (pos 0) ≡ false → decimal_of (nat_abs z) ≡ signed_of z
unfolding signed_of
above (pos n) t = refl
above (negsuc n) t = cc

-- below 0 a minus sign and the size
pub signed_below : {y z : ℤ} {m : ℕ} → y ≡ z → lt_z y (pos 0) ≡ true → m ≡ nat_abs y → 45 ∷ decimal_of m ≡ signed_of z
signed_below {y} e t f = ap (λ (k : ℕ). 45 ∷ decimal_of k) f ∙ below y t ∙ ap signed_of e

-- and else the size alone
pub signed_above : {y z : ℤ} {m : ℕ} → y ≡ z → lt_z y (pos 0) ≡ false → m ≡ nat_abs y → decimal_of m ≡ signed_of z
signed_above {y} e t f = ap decimal_of f ∙ above y t ∙ ap signed_of e
