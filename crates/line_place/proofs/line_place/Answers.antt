-- `line_place::line_place` meets its contract.
use mathlib.Core.Path.{refl, ◌∙◌}
use lib.ListN.{length}
use native.Mathlib.Omega.{arith}
use borrow.Author.Rules.{rules}
use Rattle.std.proofs.lemmas.Iterator.{YieldsList-from_range}
use Rattle.std.proofs.lemmas.Iterator.Search.{find_from_yields_List}
use Rattle.line_place.specs.Place.{line_here, line_place}
use Rattle.line_place.proofs.Places.{first_found}
use Rattle.line_place.proofs.line_place.Goals as goal

pub returns-clause-value : goal.returns-clause-value
unfolding line_place
returns-clause-value c =
    let w = c.args.word.now in
    let s = c.args.text.now in
    c.unwrap_or.ensures
    ∙ first_found (line_here w s) (length s) _ (find_from_yields_List (line_here w s) _ _ _ c.find.ensures.ran
    (YieldsList-from_range 0 (length s) (length s) refl (omega arith)) (λ x b q h. search rules))
