-- Numbers as decimal text.
use Rattle.std.specs.Prelude.{ℕ, zero, suc, ◌+◌, ◌/◌, ◌%◌, true, false, List, [], ◌∷◌, ◌++◌, ltb, ℤ, pos, negsuc}

-- the digits of n, the most significant first; f is a count of steps that n's digits do not exceed
unfoldable pub decimal_f : ℕ → ℕ → List ℕ
decimal_f zero n = []
decimal_f (suc f) n = elim (ltb n 10) [ true ↦ [] | false ↦ decimal_f f (n / 10) ] ++ ((48 + n % 10) ∷ [])

-- n in decimal, with no leading zeros, in ASCII
unfoldable pub decimal_of : ℕ → List ℕ
unfolding decimal_f
decimal_of n = decimal_f (suc n) n

-- a signed number: a minus sign before the digits of a negative one
unfoldable pub signed_of : ℤ → List ℕ
unfolding decimal_of
signed_of (pos n) = decimal_of n
signed_of (negsuc n) = 45 ∷ decimal_of (suc n)
