-- `task_shares::rows::sum_of` meets its contract: the shares so far and those that are left are all.
use native.Mathlib.Omega.{arith}
use Rattle.task_shares.proofs.RowPassed.{sum_more}
use Rattle.task_shares.proofs.rows.sum_of.Goals as goal

pub loop-s-preserved : goal.loop-s-preserved
loop-s-preserved c =
    let at = c.loop-s in
    (omega arith, sum_more c.args.shares at.s-index (omega arith) at.sum at.invariant.1)
