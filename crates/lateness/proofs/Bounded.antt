-- The work that the code divides: it fits 64 bits, and its parts are the definitions'.
use Prim.Native.Nat.{ℕ, ◌+◌, ◌*◌, ◌≤◌}
use mathlib.Core.Path.{◌≡◌, ap₂, ◌∙◌}
use mathlib.Core.List.{List}
use native.Mathlib.Omega.{arith}
use native.Mathlib.Nat.{mul-le-mul}
use Rattle.units.specs.Limits.{period_limit, common_limit}
use Rattle.arith.specs.Ceiling.{ceil_div}
use Rattle.lateness.specs.declared.movers.Mover.{Mover}
use Rattle.lateness.specs.Inner.{push_by, reach_limit, MoverInRange, PairInRange}

-- s × (D + 2T) of a mover
pub push_le : {rs : List ℕ} {m : Mover} → MoverInRange rs m → push_by rs m ≤ common_limit * (reach_limit + period_limit)
push_le k = mul-le-mul {n₂ = common_limit} {m₂ = reach_limit + period_limit} k.share (omega (arith, k.reach, k.period))

-- that of both movers, and L × 2C of both
pub work_le : {l : ℕ} {rs : List ℕ} {h m : Mover} → PairInRange l rs h m
    → push_by rs h + push_by rs m + l * (2 * h.cost.0 + 2 * m.cost.0)
    ≤ 2 * (common_limit * (reach_limit + period_limit)) + common_limit * (4 * period_limit)
work_le {l} {rs} {h} {m} k =
    let own : l * (2 * h.cost.0 + 2 * m.cost.0) ≤ common_limit * (4 * period_limit) =
    mul-le-mul {n₂ = common_limit} {m₂ = 4 * period_limit} k.common (omega (arith, k.upper.cost, k.lower.cost)) in
    omega (arith, push_le k.upper, push_le k.lower)

-- equal work divided by equal room
pub divided : (r a b a' b' : ℕ) → r ≡ ceil_div a b → a ≡ a' → b ≡ b' → r ≡ ceil_div a' b'
divided r a b a' b' e f g = e ∙ ap₂ ceil_div f g
