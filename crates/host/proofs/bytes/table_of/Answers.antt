-- `host::bytes::table_of` meets its contract.
use mathlib.Core.Path.{ap, sym, ◌∙◌}
use mathlib.Core.Bool.{Bool, not, ◌||◌}
use Prim.Native.Nat.{◌%◌}
use lib.Dec.{eqb}
use lib.ListN.{length}
use Rattle.host.proofs.Held.{none_held, all_held}
use Rattle.host.proofs.bytes.table_of.Goals as goal

pub returns-then-n-out : goal.returns-then-n-out
returns-then-n-out c =
    none_held c.args.bytes.now
    (sym (ap (λ (out : Bool). not (eqb (length c.args.bytes.now % 4) 0) || out) c.no_table-out.ensures) ∙ c.if-n-out.true)

pub returns : goal.returns
returns c =
    all_held c.args.bytes.now
    (sym (ap (λ (out : Bool). not (eqb (length c.args.bytes.now % 4) 0) || out) c.no_table-out.ensures) ∙ c.if-n-out.false)
    c.numbers_of-numbers.result c.numbers_of-numbers.ensures
