-- `task_shares::rows::first_core` meets its contract.
use borrow.Author.Rules.{rules}
use borrow.Author.Tests.{tests}
use mathlib.Core.Path.{◌∙◌}
use lib.Dec.{ltb}
use Rattle.std.proofs.lemmas.Iterator.{YieldsList-from_slice}
use Rattle.std.proofs.lemmas.Iterator.Search.{position_from_yields_List}
use Rattle.units.specs.declared.share.Share.{Share}
use Rattle.task_shares.proofs.RowPassed.{first_from}
use Rattle.task_shares.proofs.rows.first_core.Goals as goal

pub returns : goal.returns
returns c =
    let ss = c.args.shares in
    let first = c.position in
    let e = position_from_yields_List (λ (s : Share). ltb 0 s.0) _ _ first.result first.ensures.ran (YieldsList-from_slice ss cc)
    (λ x b q k. search (rules, tests)) in
    c.unwrap_or.ensures ∙ first_from ss first.result (search rules) e
