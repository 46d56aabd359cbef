-- What is written as a name is read as it, and only that.
use Prim.Native.Nat.{ℕ, zero, suc, ◌+◌, ◌≤◌, ◌<◌}
use mathlib.Core.Path.{◌≡◌, refl, sym, ap, ap₂, ◌∙◌}
use mathlib.Core.Logic.{◌⊎◌, inl, inr}
use mathlib.Core.Bool.{true, false, ◌&&◌}
use mathlib.Core.List.{List, [], ◌∷◌, ◌++◌}
use native.Mathlib.Omega.{arith}
use borrow.Author.Tests.{le-leb, lt-leb, ltb-true, leb-true, eqb-true}
use lib.Dec.{ltb, leb, eqb}
use lib.ListN.{length, get_or, drop}
use lib.Seq.{drop-cons, drop-drop, drop-append-add, get_or-drop, get_or-append_seam}
use Rattle.lists.proofs.Tests.{by_cases, and_left, and_right}
use Rattle.scanning.proofs.Fields.{inside}
use Rattle.names.specs.Name.{letters_limit, Name, letter, letters, name_long, name_at, name_by, name_end}
use Rattle.names.proofs.Ends.{end_is}

-- each of some bytes is a small letter
abbrev pub Small : List ℕ → Type 0
Small n = (i : ℕ) → i < length n → (97 ≤ get_or n i 0) × (get_or n i 0 ≤ 122)

-- a byte that is no small letter
abbrev pub NoLetter : ℕ → Type 0
NoLetter e = (e < 97) ⊎ (122 < e)

-- it is none
no_letter : (e : ℕ) → NoLetter e → letter e ≡ false
no_letter e (inl h) = rw (lt-leb 97 e h) refl
no_letter e (inr h) = rw (le-leb 97 e (omega arith), lt-leb e 122 h) refl

-- the letters before such a byte
pub letters_written : (n : List ℕ) (e : ℕ) (rest : List ℕ) → Small n → NoLetter e → letters (n ++ e ∷ rest) ≡ n
unfolding letters
letters_written [] e rest h stop = rw (no_letter e stop)
letters_written (b ∷ n) e rest h stop =
    let k = h 0 (omega arith) in
    rw (le-leb 97 b k.0, le-leb b 122 k.1) (ap (λ (l : List ℕ). b ∷ l) (letters_written n e rest (λ i p. h (suc i) (omega arith)) stop))

-- a name that is written at a place with a byte after it
pub name_written : (s : List ℕ) (e at : ℕ) (n rest : List ℕ) → Name n → NoLetter e → drop at s ≡ n ++ e ∷ rest
    → (name_at s at ≡ n) × (name_end s e at ≡ at + length n + 1) × (drop (at + length n + 1) s ≡ rest)
unfolding name_at
name_written s e at n rest h stop p =
    let k = length n in
    let here : name_at s at ≡ n = ap letters p ∙ letters_written n e rest h.small stop in
    let last : get_or s (at + k) 0 ≡ e = sym (get_or-drop at s k 0) ∙ ap (λ (l : List ℕ). get_or l k 0) p ∙ get_or-append_seam n e rest 0 in
    let f : at + k + 1 ≡ at + (k + 1) = omega arith in (
      here,
      end_is s e at k (sym (ap length here)) (λ z. omega (arith, z, h.some)) h.few last,
      ap (λ (j : ℕ). drop j s) f ∙ sym (drop-drop (k + 1) at s) ∙ ap (drop (k + 1)) p ∙ drop-append-add n (e ∷ rest) 1,
    )

-- of no bytes each is a small letter
small_none : Small []
small_none i h = absurd (omega arith)

-- and of one more, if it is one
small_more : (b : ℕ) (n : List ℕ) → letter b ≡ true → Small n → Small (b ∷ n)
small_more b n e h zero p = (leb-true 97 b (and_left _ _ e), leb-true b 122 (and_right (leb 97 b) _ e))
small_more b n e h (suc i) p = h i (omega arith)

-- the letters that a text starts with are small letters
pub letters_small : (l : List ℕ) → Small (letters l)
unfolding letters
letters_small [] = small_none
letters_small (b ∷ l) = by_cases (letter b) (λ e. rw e (small_more b (letters l) e (letters_small l))) (λ e. rw e small_none)

-- and it goes on after them
letters_cut : (l : List ℕ) → l ≡ letters l ++ drop (length (letters l)) l
unfolding letters
letters_cut [] = refl
letters_cut (b ∷ l) = by_cases (letter b) (λ e. rw e (ap (λ (z : List ℕ). b ∷ z) (letters_cut l))) (λ e. rw e refl)

module _ (s : List ℕ) (e at : ℕ) (read : name_end s e at ≡ 0 → ⊥) where
  -- what a name that was read has
  ends : name_long (length (name_at s at)) && eqb (get_or s (at + length (name_at s at)) 0) e ≡ true
  unfolding name_end name_by
  ends = by_cases (name_long (length (name_at s at)) && eqb (get_or s (at + length (name_at s at)) 0) e) (λ p. p) (λ p. absurd (read (rw p refl)))

  -- 1 to 12 letters
  long : (1 ≤ length (name_at s at)) × (length (name_at s at) ≤ letters_limit)
  long =
      let p = and_left _ _ ends in
      (ltb-true 0 _ (and_left _ _ p), leb-true _ letters_limit (and_right (ltb 0 (length (name_at s at))) _ p))

  -- the byte after them
  last : get_or s (at + length (name_at s at)) 0 ≡ e
  last = eqb-true _ e (and_right (name_long (length (name_at s at))) _ ends)

  -- the place after that
  after : name_end s e at ≡ at + length (name_at s at) + 1
  unfolding name_end name_by
  after = rw ends refl

-- it ends two bytes or more after its place
pub name_ahead : (s : List ℕ) (e at : ℕ) → (name_end s e at ≡ 0 → ⊥) → at + 2 ≤ name_end s e at
name_ahead s e at read = omega (arith, after s e at read, (long s e at read).0)

-- and thirteen at most
pub name_few : (s : List ℕ) (e at : ℕ) → (name_end s e at ≡ 0 → ⊥) → name_end s e at ≤ at + 13
name_few s e at read = omega (arith, after s e at read, (long s e at read).1)

-- a name that was read is one, and is written there with the byte after it
pub name_read : (s : List ℕ) (e at : ℕ) → 0 < e → (name_end s e at ≡ 0 → ⊥)
    → Name (name_at s at) × (name_end s e at ≡ at + length (name_at s at) + 1) × (name_end s e at ≤ length s)
    × (drop at s ≡ name_at s at ++ e ∷ drop (name_end s e at) s)
unfolding name_at
name_read s e at p read =
    let k = length (name_at s at) in
    let f = after s e at read in
    let g = last s e at read in
    let i = inside s (at + k) e p g in
    let next : suc (at + k) ≡ name_end s e at = omega (arith, f) in (
      record { some = (long s e at read).0; few = (long s e at read).1; small = letters_small (drop at s) },
      f,
      omega (arith, f, i),
      letters_cut (drop at s)
          ∙ ap (λ (l : List ℕ). name_at s at ++ l) (drop-drop k at s ∙ drop-cons s (at + k) 0 i ∙ ap₂ (λ (c j : ℕ). c ∷ drop j s) g next),
    )
