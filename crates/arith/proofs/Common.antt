-- The common period is the least common multiple of the periods: each divides it, and it divides each number that all divide.
use Prim.Native.Nat.{ℕ, zero, suc, ◌≤◌, ◌<◌, ◌∣◌}
use mathlib.Core.List.{List, [], ◌∷◌}
use native.Mathlib.Nat.{dvd_refl, dvd_trans, one-dvd, le_of_dvd}
use native.Mathlib.Omega.{arith}
use lib.ListN.{length, get_or, take}
use Rattle.arith.specs.Divisor.{lcm}
use Rattle.arith.specs.Period.{common_from, common}
use Rattle.arith.proofs.Multiple.{lcm_left, lcm_right, lcm_least, lcm_pos}

-- each of these periods, counted from 0, is so
abbrev pub Each : (ℕ → Type 0) → List ℕ → Type 0
Each P ts = (i : ℕ) → i < length ts → P (get_or ts i 0)

-- the common period l of the tasks before divides that of all
from_grows : (l : ℕ) (ts : List ℕ) → l ∣ common_from l ts
from_grows l [] = dvd_refl l
from_grows l (t ∷ ts) = dvd_trans l (lcm_left l t) (from_grows (lcm l t) ts)

-- each period divides the common period of all
from_each : (l : ℕ) (ts : List ℕ) → Each (λ t. t ∣ common_from l ts) ts
from_each l [] i h = absurd (omega arith)
from_each l (t ∷ ts) zero h = dvd_trans t (lcm_right l t) (from_grows (lcm l t) ts)
from_each l (t ∷ ts) (suc i) h = from_each (lcm l t) ts i (omega arith)

-- that divides every number that l and all periods divide
from_least : (l : ℕ) (ts : List ℕ) (m : ℕ) → l ∣ m → Each (λ t. t ∣ m) ts → common_from l ts ∣ m
from_least l [] m d e = d
from_least l (t ∷ ts) m d e =
    from_least (lcm l t) ts m (lcm_least l t m d (e 0 (omega arith))) (λ i h. e (suc i) (omega arith))

-- it is positive if l and all periods are
from_pos : (l : ℕ) (ts : List ℕ) → 0 < l → Each (λ t. 0 < t) ts → 0 < common_from l ts
from_pos l [] h e = h
from_pos l (t ∷ ts) h e =
    from_pos (lcm l t) ts (lcm_pos l t h (e 0 (omega arith))) (λ i k. e (suc i) (omega arith))

-- that of the first k tasks divides that of all
from_take : (l : ℕ) (ts : List ℕ) (k : ℕ) → common_from l (take k ts) ∣ common_from l ts
from_take l ts zero = from_grows l ts
from_take l [] (suc k) = dvd_refl l
from_take l (t ∷ ts) (suc k) = from_take (lcm l t) ts k

-- each period divides it
pub common_each : (ts : List ℕ) (i : ℕ) → i < length ts → get_or ts i 0 ∣ common ts
unfolding common
common_each ts = from_each 1 ts

-- it divides every number that all periods divide
pub common_least : (ts : List ℕ) (m : ℕ) → Each (λ t. t ∣ m) ts → common ts ∣ m
unfolding common
common_least ts m e = from_least 1 ts m (one-dvd m) e

-- it is positive if all periods are
pub common_pos : (ts : List ℕ) → Each (λ t. 0 < t) ts → 0 < common ts
unfolding common
common_pos ts e = from_pos 1 ts (omega arith) e

-- that of the first k tasks divides it
pub common_take : (ts : List ℕ) (k : ℕ) → common (take k ts) ∣ common ts
unfolding common
common_take ts k = from_take 1 ts k

-- so it never falls
pub common_grows : (ts : List ℕ) (k : ℕ) → Each (λ t. 0 < t) ts → common (take k ts) ≤ common ts
common_grows ts k e = le_of_dvd (common_pos ts e) (common_take ts k)
