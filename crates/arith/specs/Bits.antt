-- The binary digits of numbers: how many halvings there are room for.
use Rattle.std.specs.Prelude.{ℕ, zero, suc, ◌+◌, ◌/◌}

-- at most k of a number's bits
unfoldable pub bits_in : ℕ → ℕ → ℕ
bits_in zero n = 0
bits_in (suc k) zero = 0
bits_in (suc k) (suc n) = suc (bits_in k (suc n / 2))

-- the bits of a number: how often it is halved until nothing is left
unfoldable pub bits_of : ℕ → ℕ
bits_of n = bits_in n n

-- how many halvings there are room for in two numbers, each of which takes a bit off one of them
abbrev pub halvings : ℕ → ℕ → ℕ
halvings a b = bits_of a + bits_of b
