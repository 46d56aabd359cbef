-- The text of a number is the only one of digits with no leading zero that says it.
use Prim.Native.Nat.{ℕ, zero, suc, ◌+◌, ◌*◌, ◌/◌, ◌%◌, ◌-◌, ◌≤◌, ◌<◌}
use mathlib.Core.Path.{◌≡◌, sym, ap, ◌∙◌}
use mathlib.Core.List.{List, [], ◌∷◌, ◌++◌, append_assoc, append-nil}
use native.Mathlib.Omega.{arith}
use Rattle.writing.specs.Decimal.{decimal_of}
use Rattle.writing.specs.Value.{value_from, value_of, Digits, Plain}
use Rattle.writing.specs.Value.Digits.{end, digit}
use Rattle.writing.specs.Value.Plain.{naught, first}
use Rattle.writing.proofs.Decimal.{either, decimal_small, decimal_large}
use Rattle.writing.proofs.Back.{value_back}

-- digits and one more
digits_more : {s : List ℕ} (d : ℕ) → d ≤ 9 → Digits s → Digits (s ++ ((48 + d) ∷ []))
digits_more d h end = digit d [] h end
digits_more d h (digit e s g t) = digit e _ g (digits_more d h t)

-- the same of a text with no leading zero that is not 0
plain_more : {s : List ℕ} (d : ℕ) → d ≤ 9 → 0 < value_of s → Plain s → Plain (s ++ ((48 + d) ∷ []))
plain_more d h p naught = absurd (omega arith)
plain_more d h p (first e s l g t) = first e _ l g (digits_more d h t)

-- a number is written with no leading zero, by its size
plain_below : (f n : ℕ) → n < f → Plain (decimal_of n)
plain_below zero n p = absurd (omega arith)
plain_below (suc f) n p =
    either n 10
    (λ h. rw (decimal_small n h)
    (either 0 n (λ l. first n [] l (omega arith) end) (λ l. let e : n ≡ 0 = omega arith in rw e naught)))
    (λ h. rw (decimal_large n h)
    (plain_more (n % 10) (omega arith) (rw (value_back (n / 10)) (omega arith)) (plain_below f (n / 10) (omega arith))))

-- a number is written with no leading zero
pub decimal_plain : (n : ℕ) → Plain (decimal_of n)
decimal_plain n = plain_below (suc n) n (omega arith)

-- a digit after a number that is not 0
decimal_next : (v d : ℕ) → 0 < v → d ≤ 9 → decimal_of (v * 10 + (48 + d - 48)) ≡ decimal_of v ++ ((48 + d) ∷ [])
decimal_next v d p h =
    let tenth : (v * 10 + (48 + d - 48)) / 10 ≡ v = omega arith in
    let last : (v * 10 + (48 + d - 48)) % 10 ≡ d = omega arith in
    decimal_large (v * 10 + (48 + d - 48)) (omega arith) ∙ rw (tenth, last)

-- digits after a number that is not 0
decimal_after : {s : List ℕ} (v : ℕ) → 0 < v → Digits s → decimal_of (value_from v s) ≡ decimal_of v ++ s
decimal_after v p end = sym (append-nil (decimal_of v))
decimal_after v p (digit d s h t) =
    decimal_after (v * 10 + (48 + d - 48)) (omega arith) t
    ∙ ap (λ (l : List ℕ). l ++ s) (decimal_next v d p h)
    ∙ append_assoc (decimal_of v) ((48 + d) ∷ []) s

-- and no other such text says the same number
pub plain_back : {s : List ℕ} → Plain s → decimal_of (value_of s) ≡ s
plain_back naught = decimal_small 0 (omega arith)
plain_back (first d s p h t) =
    let e : 0 * 10 + (48 + d - 48) ≡ d = omega arith in
    ap (λ (v : ℕ). decimal_of (value_from v s)) e ∙ decimal_after d p t ∙ ap (λ (l : List ℕ). l ++ s) (decimal_small d (omega arith))
