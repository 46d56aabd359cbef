-- `listing::writers::put_first` meets its contract.
use Rattle.writing.proofs.Wrote.{then}
use Rattle.listing.proofs.writers.put_first.Goals as goal

pub returns-clause-wrote : goal.returns-clause-wrote
returns-clause-wrote c = then (then c.put_field-a.ensures.wrote c.put_field-b.ensures.wrote) c.put_byte.ensures
