-- For the contracts of writers, which only crates of ours call: how far a writer may go, and digits by twos. It stands for no rule of document 01.
use Rattle.std.specs.Prelude.{ℕ, ◌+◌, ◌/◌, ◌%◌, List, [], ◌∷◌, ◌++◌}

-- no writer is asked to answer a larger index
abbrev pub place_limit : ℕ
place_limit = 1000000000000000000

-- a number below 100 with its leading zero
abbrev pub two_digits : ℕ → List ℕ
two_digits n = (48 + n / 10) ∷ (48 + n % 10) ∷ []

-- a number below 10,000 with its leading zeros
abbrev pub four_digits : ℕ → List ℕ
four_digits n = two_digits (n / 100) ++ two_digits (n % 100)
