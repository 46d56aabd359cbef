-- `writing::refused::put_numbered` meets its contract.
use Rattle.writing.proofs.Wrote.{then}
use Rattle.writing.specs.Refused.{refusal_text}
use Rattle.writing.proofs.refused.put_numbered.Goals as goal

pub returns-clause-wrote : goal.returns-clause-wrote
unfolding refusal_text
returns-clause-wrote c =
    then (then c.put_field-a.ensures.wrote c.put_named-b.ensures.wrote) c.put_byte.ensures
