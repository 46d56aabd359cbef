-- A table's bytes read four at a time.
use Prim.Native.Nat.{ℕ, suc, ◌+◌, ◌*◌, ◌/◌, ◌≤◌, ◌<◌}
use mathlib.Core.Path.{◌≡◌, refl}
use mathlib.Core.List.{List, [], ◌∷◌}
use native.Mathlib.Omega.{arith}
use lib.ListN.{length, drop, set, length-drop}
use lib.Seq.{drop-cons}
use Rattle.units.specs.Limits.{tasks_limit}
use Rattle.lists.specs.Lists.{zeros}
use Rattle.lists.proofs.Filled.{Filled, empty, next, full}
use Rattle.little_endian.specs.Number.{numbers_of, number32_at}
use Rattle.host.specs.Inner.{filled}

-- a number for every four bytes
pub numbers_length : (bytes : List ℕ) → length (numbers_of bytes) ≡ length bytes / 4
numbers_length [] = refl
numbers_length (a ∷ []) = refl
numbers_length (a ∷ b ∷ []) = refl
numbers_length (a ∷ b ∷ c ∷ []) = refl
numbers_length (a ∷ b ∷ c ∷ d ∷ bytes) = omega (arith, numbers_length bytes)

-- from number k on: its four bytes, then the numbers after it
number_drop : (bytes : List ℕ) (k : ℕ) → 4 * k + 3 < length bytes → numbers_of (drop (4 * k) bytes) ≡ number32_at bytes (4 * k) ∷ numbers_of
    (drop (4 * (k + 1)) bytes)
number_drop bytes k h =
    let one : suc (4 * k) ≡ 4 * k + 1 = omega arith in
    let two : suc (4 * k + 1) ≡ 4 * k + 2 = omega arith in
    let three : suc (4 * k + 2) ≡ 4 * k + 3 = omega arith in
    let four : suc (4 * k + 3) ≡ 4 * (k + 1) = omega arith in
    rw (
      drop-cons bytes (4 * k) 0 (omega arith),
      one,
      drop-cons bytes (4 * k + 1) 0 (omega arith),
      two,
      drop-cons bytes (4 * k + 2) 0 (omega arith),
      three,
      drop-cons bytes (4 * k + 3) 0 h,
      four,
    )

-- after k numbers: the first k stand, zeros after them
abbrev pub Filling : List ℕ → List ℕ → ℕ → Type 0
Filling bytes xs k = Filled 0 (2 * tasks_limit) (numbers_of bytes) xs (numbers_of (drop (4 * k) bytes)) k

pub start : (bytes : List ℕ) → Filling bytes (zeros (2 * tasks_limit)) 0
start bytes = empty 0 (2 * tasks_limit) (numbers_of bytes)

pub step : (bytes xs : List ℕ) (k x : ℕ) → Filling bytes xs k → 4 * k + 3 < length bytes → k < 2 * tasks_limit → x ≡ number32_at bytes (4 * k)
    → Filling bytes (set xs k x) (k + 1)
step bytes xs k x f h m e =
    next 0 (2 * tasks_limit) (numbers_of bytes) xs (numbers_of (drop (4 * (k + 1)) bytes)) k x
    (rw (number_drop bytes k h, ← e) at f) m

-- less than a number
short : (bytes : List ℕ) → length bytes < 4 → numbers_of bytes ≡ []
short [] h = refl
short (a ∷ []) h = refl
short (a ∷ b ∷ []) h = refl
short (a ∷ b ∷ c ∷ []) h = refl
short (a ∷ b ∷ c ∷ d ∷ bytes) h = absurd (omega arith)

pub finish : (bytes xs : List ℕ) (k : ℕ) → Filling bytes xs k → length bytes / 4 ≤ k → k ≤ 2 * tasks_limit → xs ≡ filled (numbers_of bytes)
finish bytes xs k f h m =
    full 0 (2 * tasks_limit) (numbers_of bytes) xs (numbers_of (drop (4 * k) bytes)) k f
    (short (drop (4 * k) bytes) (simp length-drop (omega arith))) m
