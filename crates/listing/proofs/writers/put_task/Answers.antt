-- `listing::writers::put_task` meets its contract.
use mathlib.Core.Path.{ap}
use mathlib.Core.List.{◌++◌}
use mir.Syntax.{w64}
use mir.ValLaws.{to_z-of_z}
use Rattle.writing.proofs.Wrote.{then, recast}
use Rattle.planning.specs.Plan.{row_of}
use Rattle.listing.specs.Listing.{head_text, row_text, late_text, task_text}
use Rattle.listing.proofs.writers.put_task.Goals as goal

pub returns-clause-wrote : goal.returns-clause-wrote
unfolding task_text
returns-clause-wrote c =
    let a = c.args in
    recast (ap (λ z. head_text a.i a.line ++ row_text (row_of a.line) ++ late_text z) (to_z-of_z w64 a.late c.ranges.late))
    (then (then c.put_head-a.ensures.wrote c.put_row-b.ensures.wrote) c.put_late.ensures.wrote)
