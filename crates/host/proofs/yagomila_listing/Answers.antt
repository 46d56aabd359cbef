-- `host::yagomila_listing` meets its contract.
use mathlib.Core.Path.{◌≡◌, ap, ◌∙◌}
use native.Mathlib.Omega.{arith}
use mathlib.Core.List.{List}
use Prim.Native.Nat.{ℕ}
use lib.ListN.{length}
use mir.Syntax.{w64}
use mir.ValLaws.{to_z-of_z}
use Rattle.std.proofs.Common.{rules}
use Rattle.listing.specs.Listed.{listing_told, table_listed, table_after}
use Rattle.listing.specs.Listed.{Listed}
use Rattle.listing.proofs.TableFits.{table_length}
use Rattle.host.specs.Host.{answered}
use Rattle.host.specs.Inner.{held_of}
use Rattle.host.proofs.Held.{part}
use Rattle.host.proofs.Answers.{listed_same, after_same}
use Rattle.host.proofs.yagomila_listing.Goals as goal

pub answer_of-requires : goal.answer_of-requires
answer_of-requires c =
    let h : listing_told c.list_table.result ≡ table_listed c.args.cores (held_of c.args.table.now) (length c.args.buf.now) =
    c.list_table.ensures.value
    ∙ ap (λ (xs : List ℕ). table_listed c.args.cores xs (length c.args.buf.now))
    (part c.args.table.now c.table_of-held.result c.table_of-held.ensures) in
    omega (arith, ap (λ (x : Listed). x.length) h, table_length c.args.cores (held_of c.args.table.now) (length c.args.buf.now))

pub returns-clause-value : goal.returns-clause-value
returns-clause-value c =
    let h : listing_told c.list_table.result ≡ table_listed c.args.cores (held_of c.args.table.now) (length c.args.buf.now) =
    c.list_table.ensures.value
    ∙ ap (λ (xs : List ℕ). table_listed c.args.cores xs (length c.args.buf.now))
    (part c.args.table.now c.table_of-held.result c.table_of-held.ensures) in
    to_z-of_z w64 c.answer_of.result (search rules)
    ∙ c.answer_of.ensures ∙ ap answered h ∙ listed_same c.args.cores c.args.table.now (length c.args.buf.now)

pub returns-clause-buf_after : goal.returns-clause-buf_after
returns-clause-buf_after c =
    c.list_table.ensures.buf_after
    ∙ ap (λ (xs : List ℕ). table_after c.args.cores xs c.args.buf.now) (part c.args.table.now c.table_of-held.result c.table_of-held.ensures)
    ∙ after_same c.args.cores c.args.table.now c.args.buf.now
