-- Rounding loses nothing: whole ticks stay whole, and what is not whole goes less than a tick up or down.
use Prim.Native.Nat.{ℕ, ◌+◌, ◌*◌, ◌-◌, ◌≤◌, ◌<◌}
use mathlib.Core.Path.{◌≡◌}
use native.Mathlib.Nat.{div-add-mod', mod-lt, div-eq_of_lt-le}
use native.Mathlib.Omega.{arith}
use borrow.Author.Tests.{lt-ltb, le-ltb}
use Rattle.tick_length.specs.Ticks.{cost_ticks, period_ticks}
use Rattle.tick_length.specs.Inner.{held}

-- a cost of whole ticks is so many
pub cost_whole : (tick c : ℕ) → 0 < tick → cost_ticks tick (c * tick) ≡ c
cost_whole tick c h = div-eq_of_lt-le tick (omega arith) (omega arith)

-- a period of whole ticks is so many
pub period_whole : (tick t : ℕ) → 0 < tick → period_ticks tick (t * tick) ≡ t
period_whole tick t h = div-eq_of_lt-le tick (omega arith) (omega arith)

-- a cost grows by less than a tick, and a period falls by less than one
pub none_lost : (tick cost period : ℕ) → 0 < tick
    → (cost ≤ cost_ticks tick cost * tick) × (cost_ticks tick cost * tick < cost + tick) × (period < period_ticks tick period * tick + tick)
    × (period_ticks tick period * tick ≤ period)
none_lost tick cost period h =
    let c = div-add-mod' (cost + (tick - 1)) tick in
    let r = mod-lt (cost + (tick - 1)) h in
    let p = div-add-mod' period tick in
    let q = mod-lt period h in
    (omega (arith, c, r), omega (arith, c, r), omega (arith, p, q), omega (arith, p, q))

-- 32 bits hold a number below 2^32
pub held_small : (n : ℕ) → n < 4294967296 → held n ≡ n
held_small n h = rw (lt-ltb n 4294967296 h)

-- and the largest of them in place of another
pub held_large : (n : ℕ) → 4294967296 ≤ n → held n ≡ 4294967295
held_large n h = rw (le-ltb n 4294967296 h)
