-- `arith::divisor::odd_gcd` meets its contract: each turn keeps the divisor of the pair, its first number odd, and takes a bit off one of the two.
use Prim.Native.Nat.{ℕ, ◌-◌, ◌/◌, ◌%◌, ◌≤◌, ◌<◌}
use mathlib.Core.Path.{◌≡◌, refl, sym, ◌∙◌}
use native.Mathlib.Nat.{le_refl, sub-le, le_of_lt, pos_of_ne-zero}
use native.Mathlib.Omega.{arith}
use Rattle.arith.specs.Bits.{halvings}
use Rattle.arith.proofs.Euclid.{gcd_zero}
use Rattle.arith.proofs.Halving.{gcd_comm, gcd_one, gcd_half, gcd_odd}
use Rattle.arith.proofs.Bits.{half_fewer}
use Rattle.arith.proofs.divisor.odd_gcd.Invariants.{Stays}
use Rattle.arith.proofs.divisor.odd_gcd.Goals.{Joined-rest-eq1, then-rest-eq1+then-kept-rest, then-rest-eq1+else-kept-rest, else-rest-eq1}
use Rattle.arith.proofs.divisor.odd_gcd.Goals as goal

-- what a turn makes of x and y, before it halves the second
data Turn (x y : ℕ) : ℕ → ℕ → Type 0 where
  even : y % 2 ≡ 0 → Turn x y x y
  larger : y % 2 ≡ 1 → x ≤ y → Turn x y x (y - x)
  smaller : y % 2 ≡ 1 → y ≤ x → Turn x y y (x - y)

-- it keeps what stays
stays : {odd other x y u v : ℕ} → Stays odd other x y → Turn x y u v → Stays odd other u (v / 2)
stays {odd} {other} {x} {y} s (even e) = record { first = s.first; same = gcd_half x y s.first e ∙ s.same }
stays {odd} {other} {x} {y} s (larger o h) = record { first = s.first; same = gcd_odd x y s.first o h ∙ s.same }
stays {odd} {other} {x} {y} s (smaller o h) = record { first = o; same = gcd_odd y x o s.first h ∙ gcd_comm y x ∙ s.same }

-- and takes a bit off
fewer : {x y u v : ℕ} → x % 2 ≡ 1 → 0 < y → Turn x y u v → halvings u (v / 2) < halvings x y
fewer {x} {y} o p (even e) = omega (arith, half_fewer y y (le_refl y) p)
fewer {x} {y} o p (larger q h) = omega (arith, half_fewer (y - x) y (sub-le y x) p)
fewer {x} {y} o p (smaller q h) = omega (arith, half_fewer (x - y) x (sub-le x y) (omega arith))

-- the turn that was made
made : (c : Joined-rest-eq1) → Turn c.loop-rest.kept c.loop-rest.rest c.if-rest-eq1.kept c.if-rest-eq1.rest
made c =
    elim c.if-rest-eq1.branch [
      | then-rest-eq1+then-kept-rest w ↦ rw (w.kept-is, w.rest-is) (larger w.if-rest-eq1.true (le_of_lt w.if-kept-rest.true))
      | then-rest-eq1+else-kept-rest w ↦ rw (w.kept-is, w.rest-is) (smaller w.if-rest-eq1.true w.if-kept-rest.false)
      | else-rest-eq1 w ↦ rw (w.kept-is, w.rest-is) (even (omega (arith, w.if-rest-eq1.false)))
    ]

pub returns-then-odd-eq1 : goal.returns-then-odd-eq1
returns-then-odd-eq1 c = rw c.if-odd-eq1.true (sym (gcd_one c.args.other))

pub loop-rest-init : goal.loop-rest-init
loop-rest-init c = record { first = c.requires; same = refl }

pub loop-rest-smaller : goal.loop-rest-smaller
loop-rest-smaller c =
    fewer c.loop-rest.invariant.first (pos_of_ne-zero c.loop-rest-test.true) (made (goal.at.loop-rest-smaller c).Joined-rest-eq1)

pub loop-rest-preserved : goal.loop-rest-preserved
loop-rest-preserved c = stays c.loop-rest.invariant (made (goal.at.loop-rest-preserved c).Joined-rest-eq1)

pub returns : goal.returns
returns c = sym (gcd_zero c.loop-rest.kept) ∙ (rw c.loop-rest-test.false at c.loop-rest.invariant.same)
