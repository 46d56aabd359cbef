-- A text that is written piece by piece, through a buffer of n bytes: no byte is lost, and none is written twice.
use Prim.Native.Nat.{ℕ, zero, suc, ◌+◌, ◌-◌, ◌*◌, ◌≤◌, ◌<◌}
use mathlib.Core.Path.{◌≡◌, refl, sym, ap, ◌∙◌}
use mathlib.Core.List.{List, [], ◌∷◌, ◌++◌, append-nil}
use native.Mathlib.Nat.{mul-suc, mul-zero}
use native.Mathlib.Omega.{arith}
use lib.ListN.{length, set, take, drop, length-set, length-take, length-drop, take-append-drop, drop_of_length-le}
use lib.Dec.{ltb}
use lib.Seq.{sets, sets-eq, length-sets, set_out, take_at, take_all, take-take, drop-drop}
use borrow.Author.Tests.{lt-ltb, le-ltb, ltb-true, ltb-false}
use Rattle.lists.proofs.Tests.{by_cases}
use Rattle.writing.specs.Wrote.{Wrote}
use Rattle.writing.proofs.Wrote.{then}
use Rattle.day_window.specs.Window.{Windowed}
use Rattle.day_window.proofs.Windows.{from_start}
use Rattle.rehearsal_answer.specs.Inner.{piece_length}

-- the piece from byte s on
abbrev pub piece : ℕ → ℕ → List ℕ → List ℕ
piece n s t = take n (drop s t)

-- f pieces from byte s on, one after another
abbrev pub joined : ℕ → ℕ → ℕ → List ℕ → List ℕ
joined n zero s t = []
joined n (suc f) s t = piece n s t ++ joined n f (s + n) t

-- they are what stands from there on
pub pieces_from : (n f s : ℕ) (t : List ℕ) → length t ≤ s + n * f → joined n f s t ≡ drop s t
pieces_from n zero s t h = sym (drop_of_length-le t {i = s} (omega (arith, mul-zero n)))
pieces_from n (suc f) s t h =
    ap (λ (l : List ℕ). piece n s t ++ l) (pieces_from n f (s + n) t (omega (arith, mul-suc n f)) ∙ sym (drop-drop n s t))
    ∙ take-append-drop n (drop s t)

-- from the start they are the whole text
pub pieces : (n f : ℕ) (t : List ℕ) → length t ≤ n * f → joined n f 0 t ≡ t
pieces n f t h = pieces_from n f 0 t (omega arith)

-- stores past the end change nothing
past_end : (l : List ℕ) (i : ℕ) (vs : List ℕ) → length l ≤ i → sets l i vs ≡ l
past_end l i [] h = refl
past_end l i (v ∷ vs) h = past_end (set l i v) (suc i) vs (omega (arith, length-set l i v)) ∙ set_out l i v h

-- a text that fills a buffer
filled : (a v : List ℕ) → length a ≤ length v → sets a 0 v ≡ take (length a) v
filled a v h =
    let n = length a in
    let l : length (take n v) ≡ n = length-take n v ∙ omega arith in
    let p : Wrote a 0 (take n v) (sets a 0 (take n v)) (0 + length (take n v)) = record { bytes = refl; end = refl } in
    let q : Wrote (sets a 0 (take n v)) (0 + length (take n v)) (drop n v) (sets (sets a 0 (take n v)) (0 + length (take n v)) (drop n v)) _ =
    record { bytes = refl; end = refl } in
    ap (λ (t : List ℕ). sets a 0 t) (sym (take-append-drop n v))
    ∙ sym (then p q).bytes
    ∙ past_end (sets a 0 (take n v)) (0 + length (take n v)) (drop n v) (omega (arith, l, length-sets a 0 (take n v)))
    ∙ sets-eq (take n v) a 0 (omega (arith, l))
    ∙ ap (λ (t : List ℕ). take n v ++ t) (drop_of_length-le a {i = 0 + length (take n v)} (omega (arith, l)))
    ∙ append-nil (take n v)

module _ {a b xs : List ℕ} {s k : ℕ} (w : Windowed a s 0 xs b k) where
  long : length (drop s xs) ≡ k - s
  long = omega (arith, length-drop s xs, w.end)

  -- a buffer that the rest of the text fills holds the piece
  fills : length a ≤ k - s → take (length a) b ≡ piece (length a) s xs
  fills h = ap (take (length a)) (from_start w ∙ filled a (drop s xs) (omega (arith, long))) ∙ take-take (length a) (length a) (drop s xs) (omega arith)

  -- of one that it does not fill, as much as there is
  ends : k - s ≤ length a → take (k - s) b ≡ piece (length a) s xs
  ends h =
      ap (take (k - s)) (from_start w ∙ sets-eq (drop s xs) a 0 (omega (arith, long)))
      ∙ take_at (drop s xs) (drop (0 + length (drop s xs)) a) (k - s) long
      ∙ sym (take_all (length a) (drop s xs) (omega (arith, long)))

  -- what is shown of the buffer is the piece
  pub shown : take (piece_length (k - s) (length a)) b ≡ piece (length a) s xs
  unfolding piece_length
  shown =
      by_cases (ltb (k - s) (length a))
      (λ e. rw e (let h = ltb-true (k - s) (length a) e in ends (omega arith)))
      (λ e. rw e (fills (ltb-false (k - s) (length a) e)))

  -- what stands after the piece
  later : drop (s + piece_length (k - s) (length a)) xs ≡ drop (s + length a) xs
  unfolding piece_length
  later =
      let z : length xs ≡ k = omega (arith, w.end) in
      by_cases (ltb (k - s) (length a))
      (λ e.
      let h = ltb-true (k - s) (length a) e in
      rw e (drop_of_length-le xs {i = s + (k - s)} (omega arith) ∙ sym (drop_of_length-le xs {i = s + length a} (omega arith))))
      (λ e. rw e refl)

  -- it and the piece make up what stood there
  pub then_later_lem : piece (length a) s xs ++ drop (s + piece_length (k - s) (length a)) xs ≡ drop s xs
  then_later_lem = ap (λ (l : List ℕ). piece (length a) s xs ++ l) (later ∙ sym (drop-drop (length a) s xs)) ∙ take-append-drop (length a) (drop s xs)

-- what is left, where it is less than the room
pub piece_left : (left room : ℕ) → left < room → left ≡ piece_length left room
unfolding piece_length
piece_left left room h = rw (lt-ltb left room h) refl

-- else as much as there is room for
pub piece_full : (left room : ℕ) → room ≤ left → room ≡ piece_length left room
unfolding piece_length
piece_full left room h = rw (le-ltb left room h) refl

-- no more than either
pub piece_in : {r : ℕ} (left room : ℕ) → r ≡ piece_length left room → (r ≤ left) × (r ≤ room)
unfolding piece_length
piece_in left room e =
    by_cases (ltb left room)
    (λ t. let h = ltb-true left room t in rw (e, t) (omega arith, omega arith))
    (λ t. let h = ltb-false left room t in rw (e, t) (omega arith, omega arith))

-- and some where there is some of both
pub piece_some : {r : ℕ} (left room : ℕ) → r ≡ piece_length left room → 0 < left → 0 < room → 0 < r
unfolding piece_length
piece_some left room e a b = by_cases (ltb left room) (λ t. rw (e, t) a) (λ t. rw (e, t) b)
