-- `sheet_answer::table::put_tasks` meets its contract.
use Rattle.planning.specs.Plan.{no_line}
use Rattle.sheet_answer.proofs.TableLines.{onward}
use Rattle.sheet_answer.proofs.table.put_tasks.Goals as goal

pub loop-line-preserved : goal.loop-line-preserved
loop-line-preserved c = onward c.loop-line.invariant no_line c.loop-line-test.true c.put_task-end.ensures.wrote c.put_task-end.ensures.upper_bound
