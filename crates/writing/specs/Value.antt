-- What decimal text says.
use Rattle.std.specs.Prelude.{ℕ, ◌+◌, ◌*◌, ◌-◌, ◌≤◌, ◌<◌, cond, List, [], ◌∷◌, eqb, ℤ, pos, neg_ℤ}

-- the number that v and the digits after it make
abbrev pub value_from : ℕ → List ℕ → ℕ
value_from v [] = v
value_from v (b ∷ s) = value_from (v * 10 + (b - 48)) s

-- the number that digits make
abbrev pub value_of : List ℕ → ℕ
value_of s = value_from 0 s

-- the same, below 0 after a minus sign
abbrev pub signed_value_of : List ℕ → ℤ
signed_value_of [] = pos 0
signed_value_of (b ∷ s) = cond (eqb b 45) (neg_ℤ (pos (value_of s))) (pos (value_of (b ∷ s)))

-- digits alone
pub data Digits : List ℕ → Type 0 where
  end : Digits []
  digit : (d : ℕ) (s : List ℕ) → d ≤ 9 → Digits s → Digits ((48 + d) ∷ s)

-- digits with no leading zero: 0 alone, or digits of which the first is not 0
pub data Plain : List ℕ → Type 0 where
  naught : Plain (48 ∷ [])
  first : (d : ℕ) (s : List ℕ) → 0 < d → d ≤ 9 → Digits s → Plain ((48 + d) ∷ s)
