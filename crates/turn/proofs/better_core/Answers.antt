-- `turn::better_core` meets its contract.
use Prim.Native.Nat.{ℕ, ◌+◌, ◌*◌, ◌≤◌}
use mathlib.Core.Path.{◌≡◌}
use mathlib.Core.Bool.{true}
use native.Mathlib.Nat.{mul-le-mul}
use native.Mathlib.Omega.{arith}
use borrow.Author.Tests.{lt-ltb, le-ltb, eq-eqb, ne_eqb}
use Rattle.turn.specs.Turn.{is_open}
use Rattle.turn.proofs.better_core.Goals.{Else-s-place}
use Rattle.turn.proofs.better_core.Goals as goal

-- a 32-bit number times another, or times one more than another, is of 64 bits
room : (a b : ℕ) → a ≤ 4294967296 → b ≤ 4294967295 → a * b ≤ 18446744069414584320
room a b = mul-le-mul

-- past the first test the core is open
opened : (c : Else-s-place) → let a = c.args in is_open a.weight a.place a.share a.count ≡ true
opened c = let a = c.args in lt-ltb (a.count * a.weight) (a.share * (a.place + 1)) (omega arith)

pub overflow_mul-s : goal.overflow_mul-s
overflow_mul-s c = omega (arith, room (c.args.place + 1) c.args.share (omega arith) (omega arith))

pub overflow_mul-n : goal.overflow_mul-n
overflow_mul-n c = omega (arith, room c.args.count c.args.weight (omega arith) (omega arith))

pub returns-then-s-place : goal.returns-then-s-place
returns-then-s-place c = let a = c.args in rw (le-ltb (a.count * a.weight) (a.share * (a.place + 1)) (omega arith))

pub overflow_mul-n-2 : goal.overflow_mul-n-2
overflow_mul-n-2 c = omega (arith, room (c.args.count + 1) c.args.weight (omega arith) (omega arith))

pub returns-then-best-eq0 : goal.returns-then-best-eq0
returns-then-best-eq0 c =
    rw (opened (goal.at.returns-then-best-eq0 c).Else-s-place, ← c.ceil_div-due.ensures, eq-eqb c.args.best.core 0 (omega arith))

pub returns-then-due-best : goal.returns-then-due-best
returns-then-due-best c =
    let best = c.args.best in
    rw (
      opened (goal.at.returns-then-due-best c).Else-s-place,
      ← c.ceil_div-due.ensures,
      ne_eqb best.core 0 c.if-best-eq0.false,
      lt-ltb c.ceil_div-due.result best.due
          (omega arith),
    )

pub returns-else-due-best : goal.returns-else-due-best
returns-else-due-best c =
    let best = c.args.best in
    rw (
      opened (goal.at.returns-else-due-best c).Else-s-place,
      ← c.ceil_div-due.ensures,
      ne_eqb best.core 0 c.if-best-eq0.false,
      le-ltb c.ceil_div-due.result best.due
          (omega arith),
    )
