-- `lateness::bounds::fixed_on` meets its contract.
use native.Mathlib.Omega.{arith}
use Rattle.lateness.proofs.Bounded.{work_le, divided}
use Rattle.lateness.proofs.bounds.fixed_on.Goals as goal

pub overflow_mul-own-3 : goal.overflow_mul-own-3
overflow_mul-own-3 c = omega (arith, work_le c.requires.1)

pub overflow_add-push : goal.overflow_add-push
overflow_add-push c = omega (arith, c.push.ensures, c.push-2.ensures, work_le c.requires.1)

pub overflow_add-push-2 : goal.overflow_add-push-2
overflow_add-push-2 c = omega (arith, c.push.ensures, c.push-2.ensures, work_le c.requires.1)

pub overflow_sub-l : goal.overflow_sub-l
overflow_sub-l c = omega (arith, c.requires.1.room)

pub overflow_sub-l-2 : goal.overflow_sub-l-2
overflow_sub-l-2 c = omega (arith, c.requires.1.room)

pub returns : goal.returns
returns c =
    divided _ _ _ _ _ c.ceil_div.ensures (omega (arith, c.push.ensures, c.push-2.ensures)) (omega arith)
