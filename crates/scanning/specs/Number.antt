-- A number of a text: decimal, no leading zeros, below a bound b.
use Rattle.std.specs.Prelude.{ℕ, ◌+◌, ◌-◌, ◌*◌, cond, List, [], ◌∷◌, Option, Some, None, ltb, leb, eqb, drop}

-- a number and the place after it, if there is one
abbrev pub Number : Type 0
Number = Option (ℕ × ℕ)

-- what a byte is as a digit, 48 to 57 being 0 to 9, and 10 if it is none
unfoldable pub digit_of : ℕ → ℕ
digit_of b = cond (leb 48 b) (cond (leb b 57) (b - 48) 10) 10

-- the digits that follow the value v at a place: a byte that is no digit ends the number
unfoldable pub digits_of : ℕ → List ℕ → ℕ → ℕ → Number
digits_of b [] v at = Some (v, at)
digits_of b (x ∷ s) v at =
    cond (ltb (digit_of x) 10)
    (cond (ltb (v * 10 + digit_of x) b) (digits_of b s (v * 10 + digit_of x) (at + 1)) None)
    (Some (v, at))

-- no leading zeros: 0 alone, or a digit that is not 0 and those that follow it
unfoldable pub first_of : ℕ → List ℕ → ℕ → Number
first_of b [] at = None
first_of b (x ∷ s) at =
    cond (ltb (digit_of x) 10)
    (cond (eqb (digit_of x) 0) (Some (0, at + 1)) (digits_of b s (digit_of x) (at + 1)))
    None

-- the number at a place of the text, with the place after it
unfoldable pub number_at : ℕ → List ℕ → ℕ → Number
number_at b s at = first_of b (drop at s) at
