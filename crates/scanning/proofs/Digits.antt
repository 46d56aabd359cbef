-- The equations of a number, as the code meets them: d is what the byte at a place is as a digit.
use Rattle.std.specs.declared.option.Option.TheVariants.{Some, None}
use Prim.Native.Nat.{ℕ, ◌+◌, ◌*◌, ◌≤◌, ◌<◌}
use mathlib.Core.Path.{◌≡◌, sym, ap, ◌∙◌}
use mathlib.Core.List.{List, ◌∷◌}
use native.Mathlib.Numerals.{add-one}
use native.Mathlib.Omega.{arith}
use borrow.Author.Tests.{lt-ltb, le-ltb, ne_eqb}
use lib.ListN.{length, get_or, drop, drop_of_length-le}
use lib.Seq.{drop-cons}
use Rattle.scanning.specs.Number.{digit_of, digits_of, first_of, number_at}

module _ (b : ℕ) (s : List ℕ) (at v d : ℕ) (inside : at < length s) (e : d ≡ digit_of (get_or s at 0)) where
  -- the byte at the place comes first of those from there on
  there : drop at s ≡ get_or s at 0 ∷ drop (at + 1) s
  there = drop-cons s at 0 inside ∙ ap (λ (k : ℕ). get_or s at 0 ∷ drop k s) (sym (add-one at))

  -- one more digit
  pub digits_more : d ≤ 9 → v * 10 + d < b → digits_of b (drop at s) v at ≡ digits_of b (drop (at + 1) s) (v * 10 + d) (at + 1)
  unfolding digits_of
  digits_more h k = rw (there, ← e, lt-ltb d 10 (omega arith), lt-ltb (v * 10 + d) b k)

  -- the bound or more
  pub digits_large : d ≤ 9 → b ≤ v * 10 + d → digits_of b (drop at s) v at ≡ None
  unfolding digits_of
  digits_large h k = rw (there, ← e, lt-ltb d 10 (omega arith), le-ltb (v * 10 + d) b k)

  -- no digit: the number ends
  pub digits_end : 9 < d → digits_of b (drop at s) v at ≡ Some (v, at)
  unfolding digits_of
  digits_end h = rw (there, ← e, le-ltb d 10 (omega arith))

  -- a number starts with a digit
  pub number_none : 9 < d → number_at b s at ≡ None
  unfolding number_at first_of
  number_none h = rw (there, ← e, le-ltb d 10 (omega arith))

  -- 0 stands alone
  pub number_zero : d ≡ 0 → number_at b s at ≡ Some (0, at + 1)
  unfolding number_at first_of
  number_zero h = rw (there, ← e, h)

  -- another digit is followed by more
  pub number_more : d ≤ 9 → (d ≡ 0 → ⊥) → number_at b s at ≡ digits_of b (drop (at + 1) s) d (at + 1)
  unfolding number_at first_of
  number_more h k = rw (there, ← e, lt-ltb d 10 (omega arith), ne_eqb d 0 k)

-- past the end of the text there is no number
pub number_past : (b : ℕ) (s : List ℕ) (at : ℕ) → length s ≤ at → number_at b s at ≡ None
unfolding number_at first_of
number_past b s at h = rw (drop_of_length-le s h)

-- the end of the text ends a number
pub digits_done : (b : ℕ) (s : List ℕ) (at v : ℕ) → length s ≤ at → digits_of b (drop at s) v at ≡ Some (v, at)
unfolding digits_of
digits_done b s at v h = rw (drop_of_length-le s h)
