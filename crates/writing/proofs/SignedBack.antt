-- A signed number that was written is read back.
use Prim.Native.Nat.{ℕ, suc, ◌+◌}
use mathlib.Core.Path.{◌≡◌, refl, sym, ap, ◌∙◌}
use mathlib.Core.List.{List}
use native.Mathlib.Omega.{arith}
use lib.IntN.{ℤ, pos, negsuc, neg_ℤ}
use borrow.Author.Tests.{ne_eqb}
use Rattle.writing.specs.Decimal.{signed_of}
use Rattle.writing.specs.Value.{value_of, signed_value_of, Plain}
use Rattle.writing.specs.Value.Plain.{naught, first}
use Rattle.writing.proofs.Back.{value_back}
use Rattle.writing.proofs.Plain.{decimal_plain}

-- digits alone have no minus sign
signed_plain : {s : List ℕ} → Plain s → signed_value_of s ≡ pos (value_of s)
signed_plain naught = refl
signed_plain (first d s p h t) = rw (ne_eqb (48 + d) 45 (λ e. omega arith))

-- a signed number is what its text says
pub signed_back : (z : ℤ) → signed_value_of (signed_of z) ≡ z
unfolding signed_of
signed_back (pos n) = signed_plain (decimal_plain n) ∙ ap pos (value_back n)
signed_back (negsuc n) = ap (λ (v : ℕ). neg_ℤ (pos v)) (value_back (suc n))

-- so no two signed numbers have the same text
pub signed_injective : (y z : ℤ) → signed_of y ≡ signed_of z → y ≡ z
signed_injective y z e = sym (signed_back y) ∙ ap signed_value_of e ∙ signed_back z
