-- `arith::divisor::lcm` meets its contract.
use Prim.Native.Nat.{◌/◌, ◌%◌, ◌≤◌}
use mathlib.Core.Path.{sym}
use native.Mathlib.Nat.{div-le_self, mul-le-mul, pos_of_ne-zero}
use native.Mathlib.Omega.{arith}
use Rattle.arith.proofs.Euclid.{gcd_pos}
use Rattle.arith.proofs.Multiple.{lcm_none, lcm_whole, lcm_step}
use Rattle.arith.proofs.divisor.lcm.Goals as goal

pub returns-then-b-eq0 : goal.returns-then-b-eq0
returns-then-b-eq0 c = sym (lcm_none c.args.a c.args.b c.if-b-eq0.true)

pub returns-then-r-eq0 : goal.returns-then-r-eq0
returns-then-r-eq0 c = sym (lcm_whole c.args.a c.args.b c.if-r-eq0.true)

pub nonzero_div-result : goal.nonzero_div-result
nonzero_div-result c =
    let a = c.args.a in
    let b = c.args.b in
    omega (arith, c.gcd-g.ensures, gcd_pos b (a % b) (pos_of_ne-zero c.if-b-eq0.false))

pub overflow_mul-result : goal.overflow_mul-result
overflow_mul-result c =
    let a = c.args.a in
    let b = c.args.b in
    let g = c.gcd-g.result in
    let q : a / g ≤ 4294967295 = omega (arith, div-le_self a g) in
    let r : b ≤ 4294967295 = omega arith in
    omega (arith, mul-le-mul q r)

pub returns : goal.returns
returns c = rw (lcm_step c.args.a c.args.b (pos_of_ne-zero c.if-b-eq0.false), c.gcd-g.ensures)
