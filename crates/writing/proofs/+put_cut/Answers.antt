-- `writing::put_cut` meets its contract: the digits of the tenth, and the last.
use Rattle.std.proofs.Common.{◌/◌, sym, arith}
use Rattle.writing.specs.Decimal.{decimal_of}
use Rattle.writing.specs.Wrote.{Wrote}
use Rattle.writing.proofs.Wrote.{then, recast}
use Rattle.writing.proofs.Decimal.{decimal_small, decimal_large, decimal_length}
use Rattle.writing.proofs.+put_cut.Goals as goal

pub put_byte-requires-else-n-lt10 : goal.put_byte-requires-else-n-lt10
put_byte-requires-else-n-lt10 t c =
    omega (arith, c.put_cut-next.ensures.wrote.end, decimal_length 18 (c.args.n / 10) (omega arith))

pub returns-then-n-lt10-clause-wrote : goal.returns-then-n-lt10-clause-wrote
returns-then-n-lt10-clause-wrote t c = recast (sym (decimal_small c.args.n c.if-n-lt10.true)) c.put_byte.ensures

pub returns-else-n-lt10-clause-wrote : goal.returns-else-n-lt10-clause-wrote
returns-else-n-lt10-clause-wrote t c =
    recast (sym (decimal_large c.args.n c.if-n-lt10.false)) (then c.put_cut-next.ensures.wrote c.put_byte-else-n-lt10.ensures)

pub returns-else-n-lt10-clause-upper_bound : goal.returns-else-n-lt10-clause-upper_bound
returns-else-n-lt10-clause-upper_bound t c =
    let w : Wrote _ _ (decimal_of c.args.n) _ _ =
    recast (sym (decimal_large c.args.n c.if-n-lt10.false)) (then c.put_cut-next.ensures.wrote c.put_byte-else-n-lt10.ensures) in
    omega (arith, w.end, decimal_length 19 c.args.n (omega arith))
