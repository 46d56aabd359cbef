-- `task_shares::rows::parts_of` meets its contract: the parts so far and those that are left are all.
use mathlib.Core.Path.{ap}
use native.Mathlib.Omega.{arith}
use borrow.Author.Tests.{lt-ltb, le-ltb}
use Rattle.lists.specs.Lists.{bit}
use Rattle.task_shares.proofs.RowPassed.{parts_more}
use Rattle.task_shares.proofs.rows.parts_of.Goals.{then-s-gt0, else-s-gt0}
use Rattle.task_shares.proofs.rows.parts_of.Goals as goal

pub loop-s-preserved : goal.loop-s-preserved
loop-s-preserved c =
    let at = c.loop-s in
    let more = parts_more c.args.shares at.s-index (omega arith) at.parts at.invariant.1 in
    elim c.if-s-gt0.branch [
      | then-s-gt0 w ↦ omega (arith, more, ap bit (lt-ltb 0 _ w.if-s-gt0.true))
      | else-s-gt0 w ↦ omega (arith, more, ap bit (le-ltb 0 _ w.if-s-gt0.false))
    ]
