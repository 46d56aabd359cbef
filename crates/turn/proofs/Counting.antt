-- A run is counted for the core that it goes to.
use Prim.Native.Nat.{ℕ, zero, suc, ◌+◌, ◌-◌, ◌<◌}
use mathlib.Core.Path.{◌≡◌, refl}
use mathlib.Core.List.{List}
use native.Mathlib.Omega.{arith}
use borrow.Author.Tests.{eq-eqb, ne_eqb}
use lib.Dec.{eqb}
use Rattle.units.specs.Limits.{cores_limit}
use Rattle.lists.specs.Lists.{zeros}
use Rattle.lists.proofs.Tests.{by_cases}
use Rattle.turn.specs.Turn.{core_of, more, counted, turn_of}

module _ (w t : ℕ) (ns : List ℕ) where
  -- the last run of a cycle
  pub counted_last : (core : ℕ) → 0 < core → t + 1 ≡ w → counted w t ns core ≡ (record { core = core; counts = zeros cores_limit; place = 0 })
  unfolding counted
  counted_last zero h e = absurd (omega arith)
  counted_last (suc j) h e = rw (eq-eqb (t + 1) w e)

  -- any other
  pub counted_more : (core : ℕ) → 0 < core → (t + 1 ≡ w → ⊥) → counted w t ns core ≡ (record { core = core; counts = more ns (core - 1); place = t + 1 })
  unfolding counted
  counted_more zero h n = absurd (omega arith)
  counted_more (suc j) h n = let e : suc j - 1 ≡ j = omega arith in rw (ne_eqb (t + 1) w n, e)

  -- it is the core of the answer
  pub counted_core : (core : ℕ) → (counted w t ns core).core ≡ core
  unfolding counted
  counted_core zero = refl
  counted_core (suc j) = by_cases (eqb (t + 1) w) (λ e. rw e) (λ e. rw e)

-- and so of the turn step
pub turn_core : (w t : ℕ) (ss ns : List ℕ) → (turn_of w t ss ns).core ≡ core_of w t ss ns
unfolding turn_of
turn_core w t ss ns = counted_core w t ns (core_of w t ss ns)
