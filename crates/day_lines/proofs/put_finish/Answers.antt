-- `day_lines::put_finish` meets its contract.
use mathlib.Core.Path.{ap}
use mir.Syntax.{w64}
use mir.ValLaws.{to_z-of_z}
use Rattle.writing.specs.Decimal.{signed_of}
use Rattle.writing.proofs.Wrote.{then, recast}
use Rattle.day_lines.specs.Lines.{finish_text}
use Rattle.day_lines.proofs.put_finish.Goals as goal

pub returns-clause-wrote : goal.returns-clause-wrote
unfolding finish_text
returns-clause-wrote c =
    let w = then (then c.put_ran-a.ensures.wrote c.put_field-b.ensures.wrote) c.put_text-c.ensures in
    let l = recast (ap signed_of (to_z-of_z w64 c.args.late c.ranges.late)) c.put_signed-d.ensures.wrote in
    then (then w l) c.put_byte.ensures
