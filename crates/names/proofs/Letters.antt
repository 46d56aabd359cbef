-- The letters at a place: one letter and those after it, and how far they go.
use Prim.Native.Nat.{ℕ, ◌+◌, ◌-◌, ◌≤◌, ◌<◌}
use mathlib.Core.Path.{◌≡◌, sym, ap, ◌∙◌}
use mathlib.Core.Bool.{true, false}
use mathlib.Core.List.{List, [], ◌∷◌}
use native.Mathlib.Numerals.{add-one}
use native.Mathlib.Omega.{arith}
use lib.ListN.{length, get_or, drop, length-drop, drop_of_length-le}
use lib.Seq.{drop-cons}
use Rattle.lists.proofs.Tests.{by_cases}
use Rattle.names.specs.Name.{letter, letters, name_at}

-- a text has at least the letters that it starts with
letters_fit : (l : List ℕ) → length (letters l) ≤ length l
unfolding letters
letters_fit [] = omega arith
letters_fit (b ∷ l) = by_cases (letter b) (λ e. rw e (omega (arith, letters_fit l))) (λ e. rw e (omega arith))

module _ (s : List ℕ) (at : ℕ) where
  -- no letter stands past the end
  pub letters_past : length s ≤ at → name_at s at ≡ []
  unfolding name_at letters
  letters_past h = rw (drop_of_length-le s h)

  -- the letters end within the text
  pub letters_room : length (name_at s at) ≤ length s - at
  unfolding name_at
  letters_room = omega (arith, letters_fit (drop at s), length-drop at s)

  module _ (inside : at < length s) where
    -- the byte at the place comes first of those from there on
    there : drop at s ≡ get_or s at 0 ∷ drop (at + 1) s
    there = drop-cons s at 0 inside ∙ ap (λ (k : ℕ). get_or s at 0 ∷ drop k s) (sym (add-one at))

    -- a letter
    pub letters_more : letter (get_or s at 0) ≡ true → name_at s at ≡ get_or s at 0 ∷ name_at s (at + 1)
    unfolding name_at letters
    letters_more e = rw (there, e)

    -- another byte
    pub letters_none : letter (get_or s at 0) ≡ false → name_at s at ≡ []
    unfolding name_at letters
    letters_none e = rw (there, e)
