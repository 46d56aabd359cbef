-- `listing::writers::put_share` meets its contract.
use Rattle.writing.proofs.Wrote.{then, recast}
use Rattle.listing.proofs.Texts.{share_some}
use Rattle.listing.proofs.writers.put_share.Goals as goal

pub returns-clause-wrote : goal.returns-clause-wrote
returns-clause-wrote c = recast (share_some _ _ c.if-share-eq0.false) (then c.put_field-next.ensures.wrote c.put_field.ensures.wrote)
