-- `scanning::word::read_word` meets its contract.
use mathlib.Core.Path.{◌≡◌, refl, sym, ap, ◌∙◌}
use mathlib.Core.List.{List}
use Prim.Native.Nat.{ℕ}
use lib.ListN.{drop}
use Rattle.std.proofs.Common.{Bor}
use Rattle.scanning.specs.Word.{starts}
use Rattle.scanning.proofs.Words.{starts_is, rest_from, read_here, read_none}
use Rattle.scanning.proofs.word.read_word.Goals.{After-starts_with}
use Rattle.scanning.proofs.word.read_word.Goals as goal

-- what was tested is that the text from there on starts with the word
tested : (c : After-starts_with) → starts c.args.word.now (drop c.args.at c.args.text.now) ≡ c.starts_with.result
tested c =
    let e = ap (λ (b : Bor (List ℕ)). b.now) c.unwrap_or-rest.ensures ∙ rest_from _ _ _ _ refl c.get.ensures.lookup.0 in
    sym (c.starts_with.ensures.value ∙ starts_is c.args.word.now c.unwrap_or-rest.result.now ∙ ap (λ (l : List ℕ). starts c.args.word.now l) e)

pub returns-then-starts_with : goal.returns-then-starts_with
returns-then-starts_with c = read_here _ _ _ (tested (goal.at.returns-then-starts_with c).After-starts_with ∙ c.if-starts_with.true)

pub returns-else-starts_with : goal.returns-else-starts_with
returns-else-starts_with c = read_none _ _ _ (tested (goal.at.returns-else-starts_with c).After-starts_with ∙ c.if-starts_with.false)
