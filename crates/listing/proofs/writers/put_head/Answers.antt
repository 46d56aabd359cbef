-- `listing::writers::put_head` meets its contract.
use Rattle.writing.proofs.Wrote.{then}
use Rattle.listing.specs.Listing.{head_text}
use Rattle.listing.proofs.writers.put_head.Goals as goal

pub returns-clause-wrote : goal.returns-clause-wrote
unfolding head_text
returns-clause-wrote c =
    then (then (then c.put_field-a.ensures.wrote c.put_field-b.ensures.wrote) c.put_field-c.ensures.wrote) c.put_field.ensures.wrote
