-- Laws of what a writer did to a part of a longer text.
use Prim.Native.Nat.{ℕ, ◌+◌, ◌-◌, ◌≤◌, ◌<◌}
use mathlib.Core.Path.{◌≡◌, refl, sym, ap, ◌∙◌, subst}
use mathlib.Core.List.{List, [], ◌++◌}
use native.Mathlib.Nat.{add_assoc}
use native.Mathlib.Omega.{arith}
use lib.ListN.{length, take, drop, length-append, length-drop, drop_of_length-le}
use lib.Seq.{sets, length-sets, drop-nil, drop-append-le, drop-append-add, take_at}
use Rattle.writing.specs.Wrote.{Wrote}
use Rattle.writing.proofs.Decimal.{either}
use Rattle.writing.proofs.Wrote.{whole, then as Wrote-then}
use Rattle.day_window.specs.Window.{Windowed}

-- nothing was written
pub none : (l : List ℕ) (s i : ℕ) → Windowed l s i [] l i
none l s i = record { bytes = ap (λ (t : List ℕ). sets l (i - s) t) (sym (drop-nil (s - i))); end = omega arith }

-- the stores of two texts, one after the other, where the window begins in the first or before
seam_in : (a xs ys : List ℕ) (s i : ℕ) → s ≤ i + length xs
    → sets (sets a (i - s) (drop (s - i) xs)) (i + length xs - s) (drop (s - (i + length xs)) ys) ≡ sets a (i - s) (drop (s - i) (xs ++ ys))
seam_in a xs ys s i h =
    let l = length-drop (s - i) xs in
    let e : i + length xs - s ≡ (i - s) + length (drop (s - i) xs) = omega (arith, l) in
    let z : s - (i + length xs) ≡ 0 = omega arith in
    let p : Wrote a (i - s) (drop (s - i) xs) (sets a (i - s) (drop (s - i) xs)) (i + length xs - s) = record { bytes = refl; end = e } in
    let q : Wrote (sets a (i - s) (drop (s - i) xs)) (i + length xs - s) ys _ _ = record { bytes = refl; end = refl } in
    ap (λ (k : ℕ). sets (sets a (i - s) (drop (s - i) xs)) (i + length xs - s) (drop k ys)) z
    ∙ (Wrote-then p q).bytes
    ∙ ap (λ (t : List ℕ). sets a (i - s) t) (sym (drop-append-le (s - i) xs ys (omega arith)))

-- and where it begins after it
seam_out : (a xs ys : List ℕ) (s i : ℕ) → i + length xs ≤ s
    → sets (sets a (i - s) (drop (s - i) xs)) (i + length xs - s) (drop (s - (i + length xs)) ys) ≡ sets a (i - s) (drop (s - i) (xs ++ ys))
seam_out a xs ys s i h =
    let e : i + length xs - s ≡ i - s = omega arith in
    let d : length xs + (s - (i + length xs)) ≡ s - i = omega arith in
    ap (λ (t : List ℕ). sets (sets a (i - s) t) (i + length xs - s) (drop (s - (i + length xs)) ys)) (drop_of_length-le xs {i = s - i} (omega arith))
    ∙ ap (λ (k : ℕ). sets a k (drop (s - (i + length xs)) ys)) e
    ∙ ap (λ (t : List ℕ). sets a (i - s) t) (sym (drop-append-add xs ys (s - (i + length xs))) ∙ ap (λ (k : ℕ). drop k (xs ++ ys)) d)

-- one text after another
pub then : {a b d : List ℕ} {s i j k : ℕ} {xs ys : List ℕ} → Windowed a s i xs b j → Windowed b s j ys d k → Windowed a s i (xs ++ ys) d k
then {a} {b} {d} {s} {i} {j} {k} {xs} {ys} p q = record {
  bytes =
      q.bytes
      ∙ ap (λ (m : ℕ). sets b (m - s) (drop (s - m) ys)) p.end
      ∙ ap (λ (l : List ℕ). sets l (i + length xs - s) (drop (s - (i + length xs)) ys)) p.bytes
      ∙ either (i + length xs) s (λ h. seam_out a xs ys s i (omega arith)) (λ h. seam_in a xs ys s i h);
  end = q.end ∙ ap (λ (m : ℕ). m + length ys) p.end ∙ add_assoc i (length xs) (length ys) ∙ ap (λ (m : ℕ). i + m) (sym (length-append xs ys));
}

-- a writer keeps the buffer's length
pub kept : {a b : List ℕ} {s i k : ℕ} {xs : List ℕ} → Windowed a s i xs b k → length b ≡ length a
kept {a} {b} {s} {i} {k} {xs} w = ap length w.bytes ∙ length-sets a (i - s) (drop (s - i) xs)

-- the same under another account of the text
pub recast : {a b : List ℕ} {s i j : ℕ} {xs ys : List ℕ} → xs ≡ ys → Windowed a s i xs b j → Windowed a s i ys b j
recast {a} {b} {s} {i} {j} e w = subst (λ (t : List ℕ). Windowed a s i t b j) e w

-- it settles the answer and each byte of the buffer
pub settled : {a b d : List ℕ} {s i j k : ℕ} {xs : List ℕ} → Windowed a s i xs b j → Windowed a s i xs d k → (j ≡ k) × (b ≡ d)
settled p q = (p.end ∙ sym q.end, p.bytes ∙ sym q.bytes)

-- a text from its start: the buffer holds what stands from the window's place on
pub from_start : {a b : List ℕ} {s k : ℕ} {xs : List ℕ} → Windowed a s 0 xs b k → b ≡ sets a 0 (drop s xs)
from_start {a} {b} {s} {k} {xs} w =
    let z : 0 - s ≡ 0 = omega arith in
    let e : s - 0 ≡ s = omega arith in
    w.bytes ∙ ap (λ (m : ℕ). sets a m (drop (s - 0) xs)) z ∙ ap (λ (m : ℕ). sets a 0 (drop m xs)) e

-- a text that begins in the window, written at its place there
pub inside : {a b : List ℕ} {s i k : ℕ} {xs : List ℕ} → s ≤ i → Wrote a (i - s) xs b k → Windowed a s i xs b (k + s)
inside {a} {b} {s} {i} {k} {xs} h w =
    let z : s - i ≡ 0 = omega arith in
    record { bytes = w.bytes ∙ ap (λ (m : ℕ). sets a (i - s) (drop m xs)) (sym z); end = omega (arith, w.end) }

-- one that begins before it, seen from its own start
pub before : {a b : List ℕ} {s i k : ℕ} {xs : List ℕ} → i < s → Windowed a (s - i) 0 xs b k → Windowed a s i xs b (k + i)
before {a} {b} {s} {i} {k} {xs} h w =
    let z : i - s ≡ 0 = omega arith in
    record { bytes = from_start w ∙ ap (λ (m : ℕ). sets a m (drop (s - i) xs)) (sym z); end = omega (arith, w.end) }

-- the last bytes of a text that was written whole
part : {z l xs : List ℕ} {n : ℕ} (s : ℕ) → Wrote z 0 xs l n → length xs ≤ length z → s < n → take (n - s) (drop s l) ≡ drop s xs
part {z} {l} {xs} {n} s w h t =
    let e : length (drop s xs) ≡ n - s = omega (arith, w.end, length-drop s xs) in
    ap (λ (u : List ℕ). take (n - s) (drop s u)) (whole w h)
    ∙ ap (take (n - s)) (drop-append-le s xs (drop (length xs) z) (omega (arith, w.end)))
    ∙ take_at (drop s xs) (drop (length xs) z) (n - s) e

-- one of which the last bytes stand in the window, copied from where it was written whole
pub cut : {a b z l xs : List ℕ} {s k n : ℕ} → Wrote z 0 xs l n → length xs ≤ length z → s < n → Wrote a 0 (take (n - s) (drop s l)) b k
    → Windowed a s 0 xs b n
cut {a} {b} {z} {l} {xs} {s} {k} {n} w h t v =
    let o : 0 - s ≡ 0 = omega arith in
    let d : s - 0 ≡ s = omega arith in
    record {
      bytes =
          v.bytes
          ∙ ap (λ (u : List ℕ). sets a 0 u) (part s w h t)
          ∙ ap (λ (m : ℕ). sets a m (drop s xs)) (sym o)
          ∙ ap (λ (m : ℕ). sets a (0 - s) (drop m xs)) (sym d);
      end = w.end;
    }

-- one that ends before it
pub past : {a z l xs : List ℕ} {s n : ℕ} → Wrote z 0 xs l n → n ≤ s → Windowed a s 0 xs a n
past {a} {z} {l} {xs} {s} {n} w h =
    record { bytes = ap (λ (t : List ℕ). sets a (0 - s) t) (sym (drop_of_length-le xs {i = s - 0} (omega (arith, w.end)))); end = w.end }
