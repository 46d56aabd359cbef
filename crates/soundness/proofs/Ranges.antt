-- The rules for one task's line, as facts about its numbers.
use Prim.Native.Nat.{ℕ, ◌+◌, ◌*◌, ◌/◌, ◌≤◌, ◌<◌}
use mathlib.Core.Path.{◌≡◌, sym, ap}
use mathlib.Core.Bool.{Bool, true, ◌&&◌}
use native.Mathlib.Omega.{arith}
use native.Mathlib.Nat.{div-eq_of_lt-le, div-mul-le_self, lt-div-mul-add, div-le_of_le-mul, mul-le-mul, mul-le-mul_right}
use lib.Dec.{ltb, leb, eqb}
use borrow.Author.Tests.{ltb-true, lt-ltb, leb-true, le-leb, eqb-true, eq-eqb}
use Rattle.units.specs.Limits.{period_limit}
use Rattle.lists.specs.Lists.{total}
use Rattle.lists.proofs.Tests.{and_left, and_right, and_true, same_bool}
use Rattle.admission.specs.Weight.{weight}
use Rattle.planning.specs.declared.Line.{Line}
use Rattle.planning.specs.Plan.{row_of}
use Rattle.soundness.specs.Rules.{line_in, weight_is, shares_sum, line_empty}
use Rattle.soundness.specs.Plan.{line_sound}

-- cost and period in their ranges
pub record InRange (ln : Line) : Type 0 where
  pub cost_some : 0 < ln.cost.0
  pub cost_fits : ln.cost.0 ≤ ln.period.0
  pub period_small : ln.period.0 ≤ period_limit

pub in_range : (ln : Line) → line_in ln ≡ true → InRange ln
in_range ln e =
    let a : Bool = leb 1 ln.cost.0 in
    let b : Bool = leb ln.cost.0 ln.period.0 in
    let k : Bool = leb ln.period.0 period_limit in
    let ab : (a && b) ≡ true = and_left (a && b) k e in
    record {
      cost_some = leb-true 1 ln.cost.0 (and_left a b ab);
      cost_fits = leb-true ln.cost.0 ln.period.0 (and_right a b ab);
      period_small = leb-true ln.period.0 period_limit (and_right (a && b) k e);
    }

-- a quotient by the products around it
pub quotient_test : (w n t : ℕ) → 0 < t → (leb (w * t) n && ltb n (w * t + t)) ≡ eqb w (n / t)
quotient_test w n t h =
    same_bool (leb (w * t) n && ltb n (w * t + t)) (eqb w (n / t))
    (λ e.
    let low : w * t ≤ n = leb-true (w * t) n (and_left (leb (w * t) n) (ltb n (w * t + t)) e) in
    let high : n < w * t + t = ltb-true n (w * t + t) (and_right (leb (w * t) n) (ltb n (w * t + t)) e) in
    eq-eqb w (n / t) (sym (div-eq_of_lt-le t low (omega arith))))
    (λ e.
    let q : w * t ≡ n / t * t = ap (λ (x : ℕ). x * t) (eqb-true w (n / t) e) in
    and_true (leb (w * t) n) (ltb n (w * t + t))
    (le-leb (w * t) n (omega (arith, div-mul-le_self n t)))
    (lt-ltb n (w * t + t) (omega (arith, lt-div-mul-add {a = n} h))))

-- a product with a cost or a period fits, and so does one period more
pub product_fits : (a b : ℕ) → a ≤ period_limit → b ≤ 4294967295 → a * b + a ≤ 4294967296000000
product_fits a b h k = omega (arith, mul-le-mul {n₂ = period_limit} {m₂ = 4294967295} h k)

-- a sound line is in range
pub sound_in : (l : ℕ) (ln : Line) → line_sound l ln ≡ true → line_in ln ≡ true
sound_in l ln e = and_left (line_in ln) (weight_is l ln) (and_left (line_in ln && weight_is l ln) (shares_sum ln) e)

-- its weight is C × L / T
pub sound_weight : (l : ℕ) (ln : Line) → line_sound l ln ≡ true → ln.weight.0 ≡ weight l ln.cost.0 ln.period.0
sound_weight l ln e =
    eqb-true ln.weight.0 (weight l ln.cost.0 ln.period.0)
    (and_right (line_in ln) (weight_is l ln) (and_left (line_in ln && weight_is l ln) (shares_sum ln) e))

-- which is at most L
pub sound_small : (l : ℕ) (ln : Line) → line_sound l ln ≡ true → ln.weight.0 ≤ l
sound_small l ln e =
    let r : InRange ln = in_range ln (sound_in l ln e) in
    rw (sound_weight l ln e) (div-le_of_le-mul ln.period.0 {n = l} (mul-le-mul_right l r.cost_fits))

-- its shares sum to it
pub sound_sum : (l : ℕ) (ln : Line) → line_sound l ln ≡ true → total (row_of ln) ≡ ln.weight.0
sound_sum l ln e = eqb-true (total (row_of ln)) ln.weight.0 (and_right (line_in ln && weight_is l ln) (shares_sum ln) e)

-- the numbers of an empty line are 0
pub record Zero (ln : Line) : Type 0 where
  pub cost : ln.cost.0 ≡ 0
  pub period : ln.period.0 ≡ 0
  pub weight : ln.weight.0 ≡ 0
  pub shares : total (row_of ln) ≡ 0

pub empty_zero : (ln : Line) → line_empty ln ≡ true → Zero ln
empty_zero ln e =
    let a : Bool = eqb ln.cost.0 0 in
    let b : Bool = eqb ln.period.0 0 in
    let c : Bool = eqb ln.weight.0 0 in
    let d : Bool = eqb (total (row_of ln)) 0 in
    let abc : (a && b && c) ≡ true = and_left (a && b && c) d e in
    let ab : (a && b) ≡ true = and_left (a && b) c abc in
    record {
      cost = eqb-true ln.cost.0 0 (and_left a b ab);
      period = eqb-true ln.period.0 0 (and_right a b ab);
      weight = eqb-true ln.weight.0 0 (and_right (a && b) c abc);
      shares = eqb-true (total (row_of ln)) 0 (and_right (a && b && c) d e);
    }
