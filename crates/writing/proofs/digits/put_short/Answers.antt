-- `writing::digits::put_short` meets its contract: the digits of the ten-thousandth, and the last four.
use mathlib.Core.Path.{sym}
use Rattle.writing.proofs.Hundreds.{decimal_ten_thousands}
use Rattle.writing.proofs.Wrote.{then, recast}
use Rattle.writing.proofs.digits.put_short.Goals as goal

pub returns-clause-wrote : goal.returns-clause-wrote
returns-clause-wrote c =
    let n = c.args.n in
    recast (sym (decimal_ten_thousands n c.if-n-lt10000.false)) (then c.put_few-next.ensures.wrote c.put_four.ensures)
