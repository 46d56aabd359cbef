-- `turn::counted` meets its contract.
use Prim.Native.Nat.{◌-◌}
use mathlib.Core.Path.{sym}
use native.Mathlib.Omega.{arith}
use Rattle.lists.proofs.Lists.{get_or_le_sum}
use Rattle.turn.proofs.Counting.{counted_last, counted_more}
use Rattle.turn.proofs.counted.Goals as goal

pub returns-then-place-weight : goal.returns-then-place-weight
returns-then-place-weight c = sym (counted_last _ _ _ _ (omega arith) c.if-place-weight.true)

pub overflow_add-next : goal.overflow_add-next
overflow_add-next c = omega (arith, get_or_le_sum c.args.counts (c.args.core - 1))

pub returns : goal.returns
returns c = sym (counted_more _ _ _ _ (omega arith) c.if-place-weight.false)
