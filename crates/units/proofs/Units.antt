-- Lists of shares and their numbers.
use Prim.Native.Nat.{ℕ, zero, suc}
use mathlib.Core.Path.{◌≡◌, refl, sym, ap, ◌∙◌}
use mathlib.Core.List.{List, [], ◌∷◌, map}
use lib.ListN.{length, get_or, set, replicate, length-map}
use Rattle.units.specs.declared.share.Share.{Share}
use Rattle.units.specs.contracts.share.Share.{the_field}
use Rattle.units.specs.Units.{share, nums, units}

pub nums_length : (ss : List Share) → length (nums ss) ≡ length ss
nums_length [] = refl
nums_length (s ∷ ss) = ap suc (nums_length ss)

-- the length of an array's numbers
pub nums_long : (ss : List Share) (n : ℕ) → length ss ≡ n → length (nums ss) ≡ n
nums_long ss n e = nums_length ss ∙ e

-- and where the array is a struct's field
pub field_long : (ss : List Share) (n : ℕ) → length (map the_field.into ss) ≡ n → length (nums ss) ≡ n
field_long ss n e = nums_length ss ∙ sym (length-map ss the_field.into) ∙ e

pub nums_at : (ss : List Share) (i : ℕ) → get_or (nums ss) i 0 ≡ (get_or ss i (share 0)).0
nums_at [] i = refl
nums_at (s ∷ ss) zero = refl
nums_at (s ∷ ss) (suc i) = nums_at ss i

pub nums_set : (ss : List Share) (i : ℕ) (s : Share) → nums (set ss i s) ≡ set (nums ss) i s.0
nums_set [] i s = refl
nums_set (x ∷ ss) zero s = refl
nums_set (x ∷ ss) (suc i) s = ap (λ (ys : List ℕ). x.0 ∷ ys) (nums_set ss i s)

pub nums_units : (xs : List ℕ) → nums (units xs) ≡ xs
nums_units [] = refl
nums_units (x ∷ xs) = ap (λ (ys : List ℕ). x ∷ ys) (nums_units xs)

pub units_nums : (ss : List Share) → units (nums ss) ≡ ss
units_nums [] = refl
units_nums (s ∷ ss) = ap (λ (ys : List Share). s ∷ ys) (units_nums ss)

pub nums_replicate : (n k : ℕ) → nums (replicate n (share k)) ≡ replicate n k
nums_replicate zero k = refl
nums_replicate (suc n) k = ap (λ (ys : List ℕ). k ∷ ys) (nums_replicate n k)
