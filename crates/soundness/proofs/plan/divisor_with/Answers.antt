-- `soundness::plan::divisor_with` meets its contract: nothing but 1 divides 1.
use Prim.Native.Nat.{◌/◌, ◌%◌}
use mathlib.Core.Path.{sym}
use native.Mathlib.Nat.{eq-one_of_dvd-one}
use borrow.Author.Tests.{eq-eqb}
use Rattle.arith.proofs.Euclid.{gcd_left}
use Rattle.soundness.proofs.plan.divisor_with.Goals as goal

pub returns-then-divisor-eq1 : goal.returns-then-divisor-eq1
returns-then-divisor-eq1 c =
    let s = c.args in
    rw (eq-eqb (s.common % s.period) 0 c.if-common-period-ne0.false, c.if-divisor-eq1.true) (sym (eq-one_of_dvd-one (gcd_left 1 (s.common / s.period))))
