-- `writing::digits::put_one_or_two` meets its contract: one digit, or both.
use borrow.Author.Rules.{rules}
use mathlib.Core.Path.{sym}
use Rattle.writing.proofs.Decimal.{decimal_small}
use Rattle.writing.proofs.Hundreds.{decimal_two}
use Rattle.writing.proofs.Wrote.{stored, recast}
use Rattle.writing.proofs.digits.put_one_or_two.Goals as goal

pub returns-then-n-lt10-clause-wrote : goal.returns-then-n-lt10-clause-wrote
returns-then-n-lt10-clause-wrote c =
    recast (sym (decimal_small _ c.if-n-lt10.true)) (stored _ _ _)

pub returns-clause-wrote : goal.returns-clause-wrote
returns-clause-wrote c =
    recast (sym (decimal_two _ c.if-n-lt10.false (search rules))) c.put_two.ensures
