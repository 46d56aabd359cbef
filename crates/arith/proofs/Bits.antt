-- A halving takes one bit off a number, a smaller number has no more, and two numbers of 32 bits have 64.
use Prim.Native.Nat.{ℕ, zero, suc, ◌/◌, ◌^◌, ◌≤◌, ◌<◌}
use mathlib.Core.Path.{◌≡◌, ap}
use native.Mathlib.Nat.{le_antisymm, le_refl}
use native.Mathlib.Omega.{arith}
use Rattle.arith.specs.Bits.{bits_in, bits_of, halvings}

-- a smaller number has no more bits, and n steps are enough for n
in_grows : (j k m n : ℕ) → m ≤ n → n ≤ k → bits_in j m ≤ bits_in k n
unfolding bits_in
in_grows zero k m n h l = omega arith
in_grows (suc j) k zero n h l = omega arith
in_grows (suc j) k (suc m) zero h l = absurd (omega arith)
in_grows (suc j) zero (suc m) (suc n) h l = absurd (omega arith)
in_grows (suc j) (suc k) (suc m) (suc n) h l =
    let i : bits_in j (suc m / 2) ≤ bits_in k (suc n / 2) = in_grows j k (suc m / 2) (suc n / 2) (omega arith) (omega arith) in
    omega arith

-- a number below 2 ^ k has no more than k
in_most : (k j n : ℕ) → n < 2 ^ k → bits_in j n ≤ k
unfolding bits_in
in_most k zero n h = omega arith
in_most k (suc j) zero h = omega arith
in_most zero (suc j) (suc n) h = absurd (omega arith)
in_most (suc k) (suc j) (suc n) h =
    let i : bits_in j (suc n / 2) ≤ k = in_most k j (suc n / 2) (omega arith) in
    omega arith

-- a smaller number has no more bits
pub bits_grow : (m n : ℕ) → m ≤ n → bits_of m ≤ bits_of n
unfolding bits_of
bits_grow m n h = in_grows m n m n h (le_refl n)

-- a halving takes one off
pub bits_half : (n : ℕ) → 0 < n → bits_of n ≡ suc (bits_of (n / 2))
unfolding bits_of bits_in
bits_half zero h = absurd (omega arith)
bits_half (suc n) h =
    let x : ℕ = suc n / 2 in
    ap suc (le_antisymm (in_grows n x x x (le_refl x) (le_refl x)) (in_grows x n x x (le_refl x) (omega arith)))

-- so the half of a number that is no larger has fewer
pub half_fewer : (m n : ℕ) → m ≤ n → 0 < n → bits_of (m / 2) < bits_of n
half_fewer m n h p =
    let g : bits_of (m / 2) ≤ bits_of (n / 2) = bits_grow (m / 2) (n / 2) (omega arith) in
    omega (arith, bits_half n p)

-- a number below 2 ^ k has at most k
pub bits_most : (k n : ℕ) → n < 2 ^ k → bits_of n ≤ k
unfolding bits_of
bits_most k n = in_most k n n

-- two numbers of 32 bits have room for 64 halvings
pub halvings_most : (a b : ℕ) → a < 2 ^ 32 → b < 2 ^ 32 → halvings a b ≤ 64
halvings_most a b h k = omega (arith, bits_most 32 a h, bits_most 32 b k)
