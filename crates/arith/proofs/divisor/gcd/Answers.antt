-- `arith::divisor::gcd` meets its contract: each turn halves the second number, and where it halves the first too, their divisor.
use Prim.Native.Nat.{ℕ, ◌+◌, ◌*◌, ◌/◌, ◌%◌, ◌^◌, ◌<◌}
use mathlib.Core.Path.{◌≡◌, sym, ap, ◌∙◌}
use native.Mathlib.Nat.{mul-one, pow-suc, pos_of_ne-zero, le_of_dvd, lt_of_le_of_lt, mod-eq_of_lt}
use native.Mathlib.Numerals.{add-one}
use native.Mathlib.Omega.{arith}
use Rattle.arith.specs.Bits.{halvings}
use Rattle.arith.specs.Divisor.{gcd}
use Rattle.arith.proofs.Euclid.{gcd_zero, gcd_left}
use Rattle.arith.proofs.Halving.{gcd_comm, gcd_none, gcd_even, gcd_half}
use Rattle.arith.proofs.Bits.{bits_half, bits_most}
use Rattle.arith.proofs.divisor.gcd.Invariants.{Halved}
use Rattle.arith.proofs.divisor.gcd.Goals as goal

start : (a b : ℕ) → 0 < a → 0 < b → Halved a b a b 0
start a b h k = record { first = h; second = k; same = mul-one (gcd a b); lost = omega arith }

-- a turn that halves both
both : {a b x y t : ℕ} → Halved a b x y t → x % 2 ≡ 0 → y % 2 ≡ 0 → Halved a b (x / 2) (y / 2) (t + 1)
both {a} {b} {x} {y} {t} s e f =
    let twice = ap (λ (n : ℕ). n * 2 ^ t) (gcd_even x y e f) in
    let power = ap (λ (n : ℕ). gcd (x / 2) (y / 2) * n) (ap (λ (n : ℕ). 2 ^ n) (add-one t) ∙ pow-suc 2 t) in
    record {
      first = omega (arith, s.first);
      second = omega (arith, s.second);
      same = omega (arith, s.same, twice, power);
      lost = omega (arith, s.lost, bits_half y s.second);
    }

-- one that halves the second alone
one : {a b x y t : ℕ} → Halved a b x y t → x % 2 ≡ 1 → y % 2 ≡ 0 → Halved a b x (y / 2) t
one {a} {b} {x} {y} {t} s o f =
    record {
      first = s.first;
      second = omega (arith, s.second);
      same = ap (λ (n : ℕ). n * 2 ^ t) (gcd_half x y o f) ∙ s.same;
      lost = omega (arith, s.lost, bits_half y s.second);
    }

-- either takes a bit off
both_fewer : {a b x y t : ℕ} → Halved a b x y t → halvings (x / 2) (y / 2) < halvings x y
both_fewer {a} {b} {x} {y} s = omega (arith, bits_half x s.first, bits_half y s.second)

one_fewer : {a b x y t : ℕ} → Halved a b x y t → halvings x (y / 2) < halvings x y
one_fewer {a} {b} {x} {y} s = omega (arith, bits_half y s.second)

-- there are fewer than 32 twos
few : {a b x y t : ℕ} → Halved a b x y t → b < 2 ^ 32 → t < 32
few {a} {b} {x} {y} s h = omega (arith, s.lost, bits_half y s.second, bits_most 32 b h)

-- and the divisor of what is left, doubled as often, is that of a and b
doubled : {a b x y t : ℕ} → Halved a b x y t → 0 < a → a < 2 ^ 32 → (gcd x y * 2 ^ t) % 2 ^ 32 ≡ gcd a b
doubled {a} {b} s p h = ap (λ (n : ℕ). n % 2 ^ 32) s.same ∙ mod-eq_of_lt (lt_of_le_of_lt (le_of_dvd p (gcd_left a b)) h)

pub returns-then-a-eq0 : goal.returns-then-a-eq0
returns-then-a-eq0 c = rw c.if-a-eq0.true (sym (gcd_none c.args.b))

pub returns-then-b-eq0 : goal.returns-then-b-eq0
returns-then-b-eq0 c = rw c.if-b-eq0.true (sym (gcd_zero c.args.a))

pub loop-y-init : goal.loop-y-init
loop-y-init c =
    start c.args.a c.args.b (pos_of_ne-zero c.if-a-eq0.false) (pos_of_ne-zero c.if-b-eq0.false)

pub overflow_add-twos : goal.overflow_add-twos
overflow_add-twos c = omega (arith, few c.loop-y.invariant (omega arith))

pub loop-y-smaller-then-x-eq0 : goal.loop-y-smaller-then-x-eq0
loop-y-smaller-then-x-eq0 c = both_fewer c.loop-y.invariant

pub loop-y-preserved-then-x-eq0 : goal.loop-y-preserved-then-x-eq0
loop-y-preserved-then-x-eq0 c = both c.loop-y.invariant c.if-x-eq0.true c.loop-y-test.true

pub loop-y-smaller : goal.loop-y-smaller
loop-y-smaller c = one_fewer c.loop-y.invariant

pub loop-y-preserved : goal.loop-y-preserved
loop-y-preserved c = one c.loop-y.invariant (omega (arith, c.if-x-eq0.false)) c.loop-y-test.true

pub overflow_shl-result : goal.overflow_shl-result
overflow_shl-result c = few c.loop-y.invariant (omega arith)

pub returns : goal.returns
returns c =
    let t = c.loop-y.twos in
    let some = pos_of_ne-zero c.if-a-eq0.false in
    ap (λ (n : ℕ). (n * 2 ^ t) % 2 ^ 32) (c.odd_gcd.ensures ∙ gcd_comm _ _) ∙ doubled c.loop-y.invariant some (omega arith)
