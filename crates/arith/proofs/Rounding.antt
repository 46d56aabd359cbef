-- Laws of division rounded up.
use Prim.Native.Nat.{ℕ, ◌+◌, ◌-◌, ◌*◌, ◌/◌, ◌%◌, ◌≤◌, ◌<◌}
use mathlib.Core.Path.{◌≡◌, sym}
use mathlib.Core.Logic.{◌↔◌}
use native.Mathlib.Nat.{div-add-mod', mod-lt, div-eq_of_lt-le, div-lt_iff_lt-mul}
use native.Mathlib.Omega.{arith}
use Rattle.arith.specs.Ceiling.{ceil_div}

-- the least number of times that b has to be taken to reach a
pub ceil_least : (a b k : ℕ) → 0 < b → (ceil_div a b ≤ k) ↔ (a ≤ k * b)
ceil_least a b k h = (
  λ (l : ceil_div a b ≤ k). let g : a + (b - 1) < (k + 1) * b = (div-lt_iff_lt-mul h).0 (omega arith) in omega arith,
  λ (l : a ≤ k * b). let g : ceil_div a b < k + 1 = (div-lt_iff_lt-mul h).1 (omega arith) in omega arith,
)

-- the quotient, if nothing is left over
pub ceil_exact : (a b : ℕ) → 0 < b → a % b ≡ 0 → a / b ≡ ceil_div a b
ceil_exact a b h r = sym (div-eq_of_lt-le b (omega (arith, div-add-mod' a b)) (omega (arith, div-add-mod' a b)))

-- one more than the quotient, if something is
pub ceil_more : (a b : ℕ) → 0 < b → 0 < a % b → a / b + 1 ≡ ceil_div a b
ceil_more a b h r = sym (div-eq_of_lt-le b (omega (arith, div-add-mod' a b)) (omega (arith, div-add-mod' a b, mod-lt a h)))
