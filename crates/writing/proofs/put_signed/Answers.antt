-- `writing::put_signed` meets its contract: a minus sign and the size, or the size alone.
use mir.Syntax.{w64}
use mir.ValLaws.{to_z-of_z}
use Rattle.writing.proofs.Signed.{signed_below, signed_above}
use Rattle.writing.proofs.Wrote.{then, recast}
use Rattle.writing.proofs.put_signed.Goals as goal

pub returns-then-z-lt0-clause-wrote : goal.returns-then-z-lt0-clause-wrote
returns-then-z-lt0-clause-wrote c =
    recast (signed_below (to_z-of_z w64 c.args.z c.ranges.z) c.if-z-lt0.true c.unsigned_abs-n.ensures.value)
    (then c.put_byte-next.ensures c.put_number.ensures.wrote)

pub returns-else-z-lt0-clause-wrote : goal.returns-else-z-lt0-clause-wrote
returns-else-z-lt0-clause-wrote c =
    recast (signed_above (to_z-of_z w64 c.args.z c.ranges.z) c.if-z-lt0.false c.unsigned_abs-n.ensures.value)
    c.put_number-else-z-lt0.ensures.wrote
