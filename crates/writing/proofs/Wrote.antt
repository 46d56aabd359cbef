-- Laws of what a writer did.
use Prim.Native.Nat.{ℕ, suc, ◌+◌, ◌≤◌, ◌<◌}
use mathlib.Core.Path.{◌≡◌, refl, sym, ap, ◌∙◌, subst}
use mathlib.Core.List.{List, [], ◌∷◌, ◌++◌, append_assoc}
use native.Mathlib.Nat.{add-zero, add-suc, suc-add, add_assoc}
use native.Mathlib.Numerals.{add-one}
use native.Mathlib.Omega.{arith}
use lib.ListN.{length, get_or, set, take, drop, length-append}
use lib.Seq.{sets, sets-eq, length-sets, take-suc}
use borrow.Rule.Slice.PartMut.{put_mid}
use Rattle.std.proofs.lemmas.Slice.{put_mid-paste}
use Rattle.std.proofs.lemmas.List.Edits.{paste_all}
use Rattle.writing.specs.Wrote.{Wrote}

-- two runs of stores, the second right after the first, are one
sets_append : (l : List ℕ) (i : ℕ) (xs ys : List ℕ) → sets (sets l i xs) (i + length xs) ys ≡ sets l i (xs ++ ys)
sets_append l i [] ys = ap (λ (k : ℕ). sets l k ys) (add-zero i)
sets_append l i (x ∷ xs) ys =
    ap (λ (k : ℕ). sets (sets l i (x ∷ xs)) k ys) (add-suc i (length xs) ∙ sym (suc-add i (length xs)))
    ∙ sets_append _ (suc i) xs ys

-- nothing was written
pub none : (l : List ℕ) (i : ℕ) → Wrote l i [] l i
none l i = record { bytes = refl; end = sym (add-zero i) }

-- one text after another
pub then : {a b d : List ℕ} {i j k : ℕ} {xs ys : List ℕ} → Wrote a i xs b j → Wrote b j ys d k → Wrote a i (xs ++ ys) d k
then {a} {b} {d} {i} {j} {k} {xs} {ys} p q = record {
  bytes = q.bytes ∙ ap (λ (m : ℕ). sets b m ys) p.end ∙ ap (λ (l : List ℕ). sets l (i + length xs) ys) p.bytes ∙ sets_append a i xs ys;
  end = q.end ∙ ap (λ (m : ℕ). m + length ys) p.end ∙ add_assoc i (length xs) (length ys) ∙ ap (λ (m : ℕ). i + m) (sym (length-append xs ys));
}

-- a writer keeps the buffer's length
pub kept : {a b : List ℕ} {i k : ℕ} {xs : List ℕ} → Wrote a i xs b k → length b ≡ length a
kept {a} {b} {i} {k} {xs} w = ap length w.bytes ∙ length-sets a i xs

-- the same under another account of the text
pub recast : {a b : List ℕ} {i j : ℕ} {xs ys : List ℕ} → xs ≡ ys → Wrote a i xs b j → Wrote a i ys b j
recast {a} {b} {i} {j} e w = subst (λ (t : List ℕ). Wrote a i t b j) e w

-- one byte was stored
pub stored : (l : List ℕ) (i v : ℕ) → Wrote l i (v ∷ []) (set l i v) (i + 1)
stored l i v = record { bytes = refl; end = refl }

-- a text was copied to where it fits
pub copied : {l ys : List ℕ} {i k : ℕ} (xs : List ℕ) → ys ≡ xs → k ≡ length xs → i + length xs ≤ length l → Wrote l i xs (put_mid i k l ys) (i + length xs)
copied {l} {ys} {i} {k} xs e n h = record {
  bytes =
      put_mid-paste i k l ys xs (length xs) e (sym n) refl
      ∙ paste_all l i xs (length xs) refl
      ∙ sym (append_assoc (take i l) xs _)
      ∙ sym (sets-eq xs l i h);
  end = refl;
}

-- the first i bytes of a text, and the next
pub byte_more : {a b d : List ℕ} {at j k : ℕ} (xs : List ℕ) (i : ℕ) → i < length xs → Wrote a at (take i xs) b j → Wrote b j (get_or xs i 0 ∷ []) d k
    → Wrote a at (take (i + 1) xs) d k
byte_more xs i h p q = recast (sym (take-suc xs i 0 h) ∙ ap (λ (k : ℕ). take k xs) (sym (add-one i))) (then p q)

-- a text that fits, written from the start: the buffer is the text and then what it was
pub whole : {a b : List ℕ} {k : ℕ} {xs : List ℕ} → Wrote a 0 xs b k → length xs ≤ length a → b ≡ xs ++ drop (length xs) a
whole {a} {b} {k} {xs} w h =
    let e : 0 + length xs ≡ length xs = omega arith in
    w.bytes ∙ sets-eq xs a 0 (omega arith) ∙ ap (λ (m : ℕ). xs ++ drop m a) e

-- it settles the answer and each byte of the buffer
pub settled : {a b d : List ℕ} {i j k : ℕ} {xs : List ℕ} → Wrote a i xs b j → Wrote a i xs d k → (j ≡ k) × (b ≡ d)
settled p q = (p.end ∙ sym q.end, p.bytes ∙ sym q.bytes)

-- and such a buffer was written so
pub fitted : {a xs : List ℕ} → length xs ≤ length a → Wrote a 0 xs (xs ++ drop (length xs) a) (length xs)
fitted {a} {xs} h =
    let e : 0 + length xs ≡ length xs = omega arith in
    record { bytes = sym (sets-eq xs a 0 (omega arith) ∙ ap (λ (m : ℕ). xs ++ drop m a) e); end = sym e }
