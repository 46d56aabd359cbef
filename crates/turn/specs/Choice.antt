-- Which core a run goes to, in the words of document 01. The task has weight w, and share s p on core p, which had n p of the t runs before this one.
-- Cores are counted from 1.
use Rattle.std.specs.Prelude.{ℕ, ◌+◌, ◌*◌, ◌≤◌, ◌<◌}
use Rattle.arith.specs.Ceiling.{ceil_div}

-- core p is open
abbrev pub Open : (w t : ℕ) (s n : ℕ → ℕ) → ℕ → Type 0
Open w t s n p = n p * w < s p * (t + 1)

-- the due place of its next run
abbrev pub due : (w : ℕ) (s n : ℕ → ℕ) → ℕ → ℕ
due w s n p = ceil_div ((n p + 1) * w) (s p)

-- of m cores the run goes to the open core with the least due place, lowest core at a tie
pub record RunGoesTo (w t : ℕ) (s n : ℕ → ℕ) (m p : ℕ) : Type 0 where
  pub from : 1 ≤ p
  pub to : p ≤ m
  pub opened : Open w t s n p
  pub least : (q : ℕ) → 1 ≤ q → q ≤ m → Open w t s n q → due w s n p ≤ due w s n q
  pub lowest : (q : ℕ) → 1 ≤ q → q < p → Open w t s n q → due w s n p < due w s n q
