-- `writing::digits::put_few` meets its contract: the digits of the hundredth, and the last two.
use mathlib.Core.Path.{sym}
use Rattle.writing.proofs.Hundreds.{decimal_hundreds}
use Rattle.writing.proofs.Wrote.{then, recast}
use Rattle.writing.proofs.digits.put_few.Goals as goal

pub returns-clause-wrote : goal.returns-clause-wrote
returns-clause-wrote c =
    let n = c.args.n in
    recast (sym (decimal_hundreds n c.if-n-lt100.false)) (then c.put_one_or_two-next.ensures.wrote c.put_two.ensures)
