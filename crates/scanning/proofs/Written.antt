-- What the writer writes, the scanner reads: a number below any bound b, and no other text is read as that number.
use Rattle.std.specs.declared.option.Option.TheVariants.{Some}
use Prim.Native.Nat.{ℕ, ◌+◌, ◌*◌, ◌-◌, ◌≤◌, ◌<◌}
use mathlib.Core.Path.{◌≡◌, refl, sym, ap, ap₂, ◌∙◌}
use mathlib.Core.Logic.{◌⊎◌, inl, inr}
use mathlib.Core.List.{List, [], ◌∷◌, ◌++◌}
use native.Mathlib.Omega.{arith}
use borrow.Author.Tests.{lt-ltb, le-leb, lt-leb, ne_eqb, ltb-true, leb-true, eqb-true, eqb-false}
use lib.Dec.{ltb, leb, eqb}
use lib.ListN.{length, get_or, drop}
use lib.Seq.{drop-drop}
use Rattle.lists.proofs.Tests.{by_cases}
use Rattle.writing.specs.Decimal.{decimal_of}
use Rattle.writing.specs.Value.{value_from, value_of, Digits, Plain}
use Rattle.writing.specs.Value.Digits.{end, digit}
use Rattle.writing.specs.Value.Plain.{naught, first}
use Rattle.writing.proofs.Back.{value_back}
use Rattle.writing.proofs.Plain.{decimal_plain, plain_back}
use Rattle.scanning.specs.Number.{Number, digit_of, digits_of, first_of, number_at}
use Rattle.scanning.proofs.Fields.{same_number, no_value, first_kept}

-- a byte that is no digit
abbrev pub NoDigit : ℕ → Type 0
NoDigit x = (x < 48) ⊎ (57 < x)

-- what a digit's byte is as a digit
digit_is : (d : ℕ) → d ≤ 9 → digit_of (48 + d) ≡ d
unfolding digit_of
digit_is d h = rw (le-leb 48 (48 + d) (omega arith), le-leb (48 + d) 57 (omega arith)) (omega arith)

-- and another byte
digit_none : (x : ℕ) → NoDigit x → digit_of x ≡ 10
unfolding digit_of
digit_none x (inl h) = rw (lt-leb 48 x h)
digit_none x (inr h) = rw (le-leb 48 x (omega arith), lt-leb x 57 h)

-- the byte of a digit
digit_byte : (x : ℕ) → digit_of x < 10 → x ≡ 48 + digit_of x
unfolding digit_of
digit_byte x =
    by_cases (leb 48 x)
    (λ e. by_cases (leb x 57) (λ f. rw (e, f) (λ h. omega (arith, leb-true 48 x e))) (λ f. rw (e, f) (λ h. absurd (omega arith))))
    (λ e. rw e (λ h. absurd (omega arith)))

-- digits make a number no smaller
value_grows : {s : List ℕ} (v : ℕ) → Digits s → v ≤ value_from v s
value_grows v end = omega arith
value_grows v (digit d s h t) = omega (arith, value_grows (v * 10 + (48 + d - 48)) t)

-- a byte that is no digit ends a number
digits_stop : (b : ℕ) (r : List ℕ) (v at : ℕ) → NoDigit (get_or r 0 0) → digits_of b r v at ≡ Some (v, at)
unfolding digits_of
digits_stop b [] v at h = refl
digits_stop b (x ∷ r) v at h = rw (digit_none x h)

module _ (b : ℕ) (rest : List ℕ) (stop : NoDigit (get_or rest 0 0)) where
  -- digits, read to their end
  digits_written : {s : List ℕ} (v at : ℕ) → Digits s → value_from v s < b → digits_of b (s ++ rest) v at ≡ Some (value_from v s, at + length s)
  unfolding digits_of
  digits_written v at end h = digits_stop b rest v at stop ∙ ap (λ (k : ℕ). Some (v, k)) (omega arith)
  digits_written v at (digit d s g t) h =
      let e : 48 + d - 48 ≡ d = omega arith in
      let k : v * 10 + d < b = omega (arith, value_grows (v * 10 + (48 + d - 48)) t) in
      rw (digit_is d g, lt-ltb d 10 (omega arith), lt-ltb (v * 10 + d) b k, e)
      (digits_written (v * 10 + d) (at + 1) t (rw e at h) ∙ ap (λ (k : ℕ). Some (value_from (v * 10 + d) s, k)) (omega arith))

  -- a text with no leading zero, read to its end
  plain_written : {s : List ℕ} (at : ℕ) → Plain s → value_of s < b → first_of b (s ++ rest) at ≡ Some (value_of s, at + length s)
  unfolding first_of digit_of
  plain_written at naught h = refl
  plain_written at (first d s p g t) h =
      let e : 0 * 10 + (48 + d - 48) ≡ d = omega arith in
      rw (digit_is d g, lt-ltb d 10 (omega arith), ne_eqb d 0 (omega arith), e)
      (digits_written d (at + 1) t (rw e at h) ∙ ap (λ (k : ℕ). Some (value_from d s, k)) (omega arith))

-- a number that is written at a place and that no digit follows is read there
pub number_written : (b : ℕ) (s : List ℕ) (at n : ℕ) (rest : List ℕ) → n < b → NoDigit (get_or rest 0 0) → drop at s ≡ decimal_of n ++ rest
    → number_at b s at ≡ Some (n, at + length (decimal_of n))
unfolding number_at
number_written b s at n rest h stop e =
    ap (λ (l : List ℕ). first_of b l at) e
    ∙ plain_written b rest stop at (decimal_plain n) (rw (value_back n) h)
    ∙ ap (λ (v : ℕ). Some (v, at + length (decimal_of n))) (value_back n)

-- a part of a text l that was read from a place on, after the value v: with it the value is w, and a is the place after it
record Part (P : List ℕ → Type 0) (l : List ℕ) (v at w a : ℕ) : Type 0 where
  text : List ℕ
  is : P text
  value : value_from v text ≡ w
  after : a ≡ at + length text
  cut : l ≡ text ++ drop (length text) l

-- a digit and what was read after it
part_more : (P Q : List ℕ → Type 0) (x : ℕ) (l : List ℕ) (v u at w a : ℕ) → v * 10 + (x - 48) ≡ u → ((t : List ℕ) → P t → Q (x ∷ t)) → Part P l u (at + 1) w a
    → Part Q (x ∷ l) v at w a
part_more P Q x l v u at w a e f r = record {
  text = x ∷ r.text;
  is = f r.text r.is;
  value = rw e r.value;
  after = omega (arith, r.after);
  cut = ap (λ (t : List ℕ). x ∷ t) r.cut;
}

-- no digit more
part_none : (l : List ℕ) (v at w a : ℕ) → ◌≡◌ {A = Number} (Some (v, at)) (Some (w, a)) → Part Digits l v at w a
part_none l v at w a e =
    let z = same_number e in
    record { text = []; is = end; value = z.0; after = omega (arith, z.1); cut = refl }

-- the digits after a number's first
digits_read : (b : ℕ) (l : List ℕ) (v at w a : ℕ) → digits_of b l v at ≡ Some (w, a) → Part Digits l v at w a
unfolding digits_of
digits_read b [] v at w a e = part_none [] v at w a e
digits_read b (x ∷ l) v at w a e =
    by_cases (ltb (digit_of x) 10)
    (λ h. by_cases (ltb (v * 10 + digit_of x) b)
    (λ k.
    let i = digit_byte x (ltb-true _ 10 h) in
    part_more Digits Digits x l v (v * 10 + digit_of x) at w a (omega arith) (λ t p. rw i (digit (digit_of x) t (omega (arith, ltb-true (digit_of x) 10 h)) p))
    (digits_read b l (v * 10 + digit_of x) (at + 1) w a (rw (h, k) at e)))
    (λ k. no_value (rw (h, k) at e)))
    (λ h. part_none (x ∷ l) v at w a (rw h at e))

-- 0 alone
zero_read : (x : ℕ) (l : List ℕ) (at v a : ℕ) → x ≡ 48 → ◌≡◌ {A = Number} (Some (0, at + 1)) (Some (v, a)) → Part Plain (x ∷ l) 0 at v a
zero_read x l at v a h e =
    let z = same_number e in
    record { text = 48 ∷ []; is = naught; value = z.0; after = sym z.1; cut = ap (λ (c : ℕ). c ∷ l) h }

-- a number has no leading zero
plain_read : (b : ℕ) (l : List ℕ) (at v a : ℕ) → first_of b l at ≡ Some (v, a) → Part Plain l 0 at v a
unfolding first_of
plain_read b [] at v a e = no_value e
plain_read b (x ∷ l) at v a e =
    by_cases (ltb (digit_of x) 10)
    (λ h.
    let i = digit_byte x (ltb-true _ 10 h) in
    by_cases (eqb (digit_of x) 0)
    (λ k. zero_read x l at v a (omega (arith, eqb-true (digit_of x) 0 k)) (rw (h, k) at e))
    (λ k. part_more Digits Plain x l 0 (digit_of x) at v a (omega arith)
    (λ t p. rw i (first (digit_of x) t (omega (arith, eqb-false (digit_of x) 0 k)) (omega (arith, ltb-true (digit_of x) 10 h)) p))
    (digits_read b l (digit_of x) (at + 1) v a (rw (h, k) at e))))
    (λ h. no_value (rw h at e))

-- a number that was read at a place is below the bound and is written there
pub number_read : (b : ℕ) (s : List ℕ) (at v a : ℕ) → 10 ≤ b → number_at b s at ≡ Some (v, a) → (v < b) × (drop at s ≡ decimal_of v ++ drop a s)
unfolding number_at
number_read b s at v a h e =
    let r = plain_read b (drop at s) at v a e in
    let w : r.text ≡ decimal_of v = sym (plain_back r.is) ∙ ap decimal_of r.value in
    let d : drop (length r.text) (drop at s) ≡ drop a s = drop-drop (length r.text) at s ∙ ap (λ (k : ℕ). drop k s) (sym r.after) in
    ((first_kept b (drop at s) at v a h e).0, r.cut ∙ ap₂ ◌++◌ w d)
