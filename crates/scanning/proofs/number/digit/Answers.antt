-- `scanning::number::digit` meets its contract.
use Rattle.scanning.specs.Number.{digit_of}
use borrow.Author.Tests.{lt-leb, le-leb}
use Rattle.scanning.proofs.number.digit.Goals as goal

pub returns-then-b-lt48-clause-value : goal.returns-then-b-lt48-clause-value
unfolding digit_of
returns-then-b-lt48-clause-value c =
    simp (lt-leb _ _ c.if-b-lt48.true)

pub returns-then-b-gt57-clause-value : goal.returns-then-b-gt57-clause-value
unfolding digit_of
returns-then-b-gt57-clause-value c =
    simp (le-leb _ _ c.if-b-lt48.false, lt-leb _ _ c.if-b-gt57.true)

pub returns-clause-value : goal.returns-clause-value
unfolding digit_of
returns-clause-value c =
    simp (le-leb _ _ c.if-b-lt48.false, le-leb _ _ c.if-b-gt57.false)
