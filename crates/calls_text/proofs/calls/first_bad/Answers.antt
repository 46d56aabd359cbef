-- `calls_text::calls::first_bad` meets its contract.
use borrow.Author.Rules.{rules}
use mathlib.Core.Path.{◌∙◌}
use Rattle.std.specs.Prelude.{◌≡◌, ℕ, Some}
use Rattle.std.specs.Option.{unwrap_or}
use Rattle.calls_text.specs.Line.{call_line, line_after}
use Rattle.calls_text.proofs.Lines.{call_place, call_ahead}
use Rattle.calls_text.proofs.calls.first_bad.Goals as goal

pub first_unreadable-requires-clause-ahead : goal.first_unreadable-requires-clause-ahead
unfolding call_place
first_unreadable-requires-clause-ahead c =
    λ at after p. (let e : Some after ≡ call_place (call_line c.args.text.now at) = search rules in call_ahead _ _ _ e)

pub returns : goal.returns
unfolding line_after
returns c =
    let s = c.args.text.now in
    let n = λ (at : ℕ). line_after (call_line s at) in
    c.unwrap_or.ensures ∙ (c.first_unreadable.ensures n (λ at r p. (let e : unwrap_or r 0 ≡ n at = search rules in e))).0
