-- Where a number ends: digits and what follows them are told apart in only one way.
use Prim.Native.Nat.{ℕ, suc, ◌+◌, ◌≤◌}
use Prim.Native.String.{String}
use mathlib.Core.Path.{◌≡◌, refl, sym, ap, ◌∙◌}
use mathlib.Core.Bool.{Bool, true, false, ◌&&◌}
use mathlib.Core.List.{List, [], ◌∷◌, ◌++◌, append_assoc, append_cancel_left, head-eq_of_cons-eq, tail-eq_of_cons-eq}
use native.Mathlib.Omega.{arith}
use lib.Dec.{leb}
use lib.IntN.{ℤ, pos, negsuc}
use borrow.Author.Tests.{le-leb}
use Rattle.lists.proofs.Tests.{and_true}
use Rattle.writing.specs.Ascii.{ascii}
use Rattle.writing.specs.Decimal.{decimal_of, signed_of}
use Rattle.writing.specs.Field.{field}
use Rattle.writing.specs.Value.{Digits, Plain}
use Rattle.writing.specs.Value.Digits.{end, digit}
use Rattle.writing.specs.Value.Plain.{naught, first}
use Rattle.writing.proofs.Back.{decimal_injective}
use Rattle.writing.proofs.Plain.{decimal_plain}

-- a byte is a digit
abbrev pub is_digit : ℕ → Bool
is_digit b = leb 48 b && leb b 57

-- a text that starts with no digit
abbrev pub Stops : List ℕ → Type 0
Stops [] = Unit {0}
Stops (b ∷ s) = is_digit b ≡ false

-- a digit starts no such text
stops_not : (r s : List ℕ) (d : ℕ) → d ≤ 9 → Stops r → r ≡ (48 + d) ∷ s → ⊥
stops_not [] s d h t e = let z : ◌≡◌ {A = ℕ} 0 1 = cc in omega arith
stops_not (b ∷ r) s d h t e =
    let b_is : b ≡ 48 + d = head-eq_of_cons-eq e in
    let digit_is : is_digit b ≡ true = and_true (leb 48 b) (leb b 57) (le-leb 48 b (omega arith)) (le-leb b 57 (omega arith)) in
    let z : ◌≡◌ {A = ℕ} 0 1 = cc in omega arith

-- digits end where such a text starts
pub digits_cut : {a b : List ℕ} (r s : List ℕ) → Digits a → Digits b → Stops r → Stops s → a ++ r ≡ b ++ s → (a ≡ b) × (r ≡ s)
digits_cut r s end end t u e = (refl, e)
digits_cut r s end (digit d b h g) t u e = absurd (stops_not r (b ++ s) d h t e)
digits_cut r s (digit d a h f) end t u e = absurd (stops_not s (a ++ r) d h u (sym e))
digits_cut r s (digit d a h f) (digit c b k g) t u e =
    let same = digits_cut r s f g t u (tail-eq_of_cons-eq e) in
    (λ i. head-eq_of_cons-eq e i ∷ same.0 i, same.1)

-- a number is digits
plain_digits : {s : List ℕ} → Plain s → Digits s
plain_digits naught = digit 0 [] (omega arith) end
plain_digits (first d s p h t) = digit d s h t

-- a number and what follows it
pub decimal_cut : (m n : ℕ) (r s : List ℕ) → Stops r → Stops s → decimal_of m ++ r ≡ decimal_of n ++ s → (m ≡ n) × (r ≡ s)
decimal_cut m n r s t u e =
    let same = digits_cut r s (plain_digits (decimal_plain m)) (plain_digits (decimal_plain n)) t u e in
    (decimal_injective m n same.0, same.1)

-- a label, a number and what follows it
pub field_cut : (label : String) (m n : ℕ) (r s : List ℕ) → Stops r → Stops s → field label m ++ r ≡ field label n ++ s → (m ≡ n) × (r ≡ s)
field_cut label m n r s t u e =
    let l = ascii label in
    decimal_cut m n r s t u
    (append_cancel_left l (decimal_of m ++ r) (decimal_of n ++ s) (sym (append_assoc l (decimal_of m) r) ∙ e ∙ append_assoc l (decimal_of n) s))

-- a number starts with a digit
pub plain_starts : {s : List ℕ} (b : ℕ) (r t : List ℕ) → is_digit b ≡ false → Plain s → s ++ r ≡ b ∷ t → ⊥
plain_starts b r t u naught e = stops_not (b ∷ t) r 0 (omega arith) u (sym e)
plain_starts b r t u (first d s p h g) e = stops_not (b ∷ t) (s ++ r) d h u (sym e)

-- a signed number and what follows it
pub signed_cut : (y z : ℤ) (r s : List ℕ) → Stops r → Stops s → signed_of y ++ r ≡ signed_of z ++ s → (y ≡ z) × (r ≡ s)
unfolding signed_of
signed_cut (pos m) (pos n) r s t u e = let same = decimal_cut m n r s t u e in (ap pos same.0, same.1)
signed_cut (pos m) (negsuc n) r s t u e = absurd (plain_starts 45 r (decimal_of (suc n) ++ s) refl (decimal_plain m) e)
signed_cut (negsuc m) (pos n) r s t u e = absurd (plain_starts 45 s (decimal_of (suc m) ++ r) refl (decimal_plain n) (sym e))
signed_cut (negsuc m) (negsuc n) r s t u e =
    let same = decimal_cut (suc m) (suc n) r s t u (tail-eq_of_cons-eq e) in
    (ap negsuc (omega (arith, same.0)), same.1)
