-- `table_text::first_unreadable` meets its contract.
use native.Mathlib.Omega.{arith}
use borrow.Author.Rules.{rules}
use Rattle.std.specs.Prelude.{◌≡◌, Some}
use Rattle.std.specs.Option.{unwrap_or}
use Rattle.scanning.specs.Lines.{pair_end}
use Rattle.scanning.proofs.Fields.{pair_place, pair_ahead}
use Rattle.table_text.specs.Text.{task_line, task_end}
use Rattle.table_text.proofs.first_unreadable.Goals as goal

pub first_unreadable-requires-clause-ahead : goal.first_unreadable-requires-clause-ahead
unfolding pair_place
first_unreadable-requires-clause-ahead c =
    λ at after p. (let e : Some after ≡ pair_place (task_line c.args.text.now at) = search rules in pair_ahead _ _ _ _ (omega arith) e)

pub returns : goal.returns
unfolding pair_end
returns c =
    let s = c.args.text.now in
    (c.first_unreadable.ensures (task_end s) (λ at r p. (let e : unwrap_or r 0 ≡ task_end s at = search rules in e))).1 (omega arith)
