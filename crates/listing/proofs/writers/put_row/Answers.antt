-- `listing::writers::put_row` meets its contract.
use Rattle.units.specs.Units.{nums}
use Rattle.writing.specs.Ascii.{ascii}
use Rattle.writing.specs.Wrote.{Wrote}
use Rattle.writing.proofs.Wrote.{then, recast}
use Rattle.listing.proofs.Texts.{row_moves, row_fixed}
use Rattle.listing.proofs.writers.put_row.Goals.{then-moves_by, else-moves_by}
use Rattle.listing.proofs.writers.put_row.Goals as goal

pub returns-clause-wrote : goal.returns-clause-wrote
returns-clause-wrote c =
    let row = nums c.args.shares in
    let b = c.if-moves_by in
    elim b.branch [
      | then-moves_by t ↦
          let w : Wrote _ _ (ascii " moves") b.buf b.next = rw (t.buf-is, t.next-is) t.put_text-next.ensures in
          recast (row_moves row c.parts_of.ensures t.if-moves_by.ensures) (then w c.put_shares.ensures.wrote)
      | else-moves_by t ↦
          let w : Wrote _ _ (ascii " fixed") b.buf b.next = rw (t.buf-is, t.next-is) t.put_text-next-else-moves_by.ensures in
          recast (row_fixed row c.parts_of.ensures t.if-moves_by.ensures) (then w c.put_shares.ensures.wrote)
    ]
