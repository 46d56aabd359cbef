-- `writing::refused::put_named` meets its contract.
use mathlib.Core.Path.{◌∙◌}
use Rattle.writing.proofs.Wrote.{none, recast}
use Rattle.writing.proofs.RefusalTexts.{names_line, names_none, names_arrival, names_task}
use Rattle.writing.proofs.refused.put_named.Goals as goal

pub returns-then-no-number-clause-wrote : goal.returns-then-no-number-clause-wrote
returns-then-no-number-clause-wrote c =
    recast (names_line _ (c.if-no-number.true ∙ c.number.ensures)) c.put_field.ensures.wrote

pub returns-then-named-eq0-clause-wrote : goal.returns-then-named-eq0-clause-wrote
returns-then-named-eq0-clause-wrote c =
    recast (names_none _ (rw c.number.ensures at c.if-no-number.false) c.if-named-eq0.true) (none _ _)

pub returns-then-number-no-clause-wrote : goal.returns-then-number-no-clause-wrote
returns-then-number-no-clause-wrote c =
    let test = rw (c.number-2.ensures, c.number-3.ensures) at c.if-number-no.true in
    recast (names_arrival _ (rw c.number.ensures at c.if-no-number.false) c.if-named-eq0.false test) c.put_field-then-number-no.ensures.wrote

pub returns-clause-wrote : goal.returns-clause-wrote
returns-clause-wrote c =
    let test = rw (c.number-2.ensures, c.number-3.ensures) at c.if-number-no.false in
    recast (names_task _ (rw c.number.ensures at c.if-no-number.false) c.if-named-eq0.false test) c.put_field-2.ensures.wrote
