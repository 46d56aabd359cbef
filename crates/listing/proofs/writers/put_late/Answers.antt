-- `listing::writers::put_late` meets its contract.
use mathlib.Core.Path.{ap}
use mathlib.Core.List.{◌++◌}
use mir.Syntax.{w64}
use mir.ValLaws.{to_z-of_z}
use Rattle.writing.specs.Ascii.{ascii}
use Rattle.writing.specs.Decimal.{signed_of}
use Rattle.writing.proofs.Wrote.{then, recast}
use Rattle.writing.specs.Field.{line_end}
use Rattle.listing.specs.Listing.{late_text}
use Rattle.listing.proofs.writers.put_late.Goals as goal

pub returns-clause-wrote : goal.returns-clause-wrote
unfolding late_text
returns-clause-wrote c =
    recast (ap (λ z. ascii " late " ++ signed_of z ++ line_end) (to_z-of_z w64 c.args.late c.ranges.late))
    (then (then c.put_text-a.ensures c.put_signed-b.ensures.wrote) c.put_byte.ensures)
