-- `scanning::number::read_number` meets its contract.
use mathlib.Core.Path.{sym, ◌∙◌}
use Rattle.scanning.proofs.Digits.{number_past, number_none, number_zero, number_more}
use borrow.Author.Rules.{rules}
use Rattle.scanning.proofs.number.read_number.Goals as goal

pub returns-then-text-at : goal.returns-then-text-at
returns-then-text-at c = sym (number_past _ _ _ c.if-text-at.true)

pub returns-then-d-gt9 : goal.returns-then-d-gt9
returns-then-d-gt9 c = sym (number_none _ _ _ 0 _ (search rules) c.digit-d.ensures.value c.if-d-gt9.true)

pub returns-then-d-eq0 : goal.returns-then-d-eq0
returns-then-d-eq0 c = sym (number_zero _ _ _ 0 _ (search rules) c.digit-d.ensures.value c.if-d-eq0.true)

pub returns : goal.returns
returns c = c.digits.ensures ∙ sym
    (number_more _ _ _ 0 _ (search rules) c.digit-d.ensures.value c.if-d-gt9.false c.if-d-eq0.false)
