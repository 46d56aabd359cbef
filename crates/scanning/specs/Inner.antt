-- For the contracts of functions that only crates of ours call: what they ask, and what a call that is handed in answers. It stands for no rule of document 01.
use Rattle.std.specs.Prelude.{ℕ, ◌≡◌, ◌≤◌, ◌<◌, Option}
use Rattle.std.specs.Option.{unwrap_or}
use Rattle.scanning.specs.Lines.{unreadable_from, unless_zero}

-- bounds that the reader takes: every digit is below them, and a digit more fits 64 bits
pub record Bound (b : ℕ) : Type 0 where
  pub least : 10 ≤ b
  pub most : b ≤ 1000000000000000000

-- what is answered at a place is the place after the line there, and none where `next` is 0
abbrev pub AnsweredBy : (ℕ → Option ℕ → Type 0) → (ℕ → ℕ) → Type 0
AnsweredBy allows next = (at : ℕ) (r : Option ℕ) → allows at r → unwrap_or r 0 ≡ next at

-- the first unreadable one of the lines from a place to a text's end, by the number that the first of them is given;
-- where that is not 0, it tells whether there is one
abbrev pub TellsFirst : (ℕ → Option ℕ → Type 0) → ℕ → ℕ → ℕ → Option ℕ → Type 0
TellsFirst allows from end start r =
    (next : ℕ → ℕ) → AnsweredBy allows next
    → (unwrap_or r 0 ≡ unreadable_from next end end start from) × (0 < start → r ≡ unless_zero (unreadable_from next end end start from))
