-- `line_place::line_here` meets its contract.
use mathlib.Core.Path.{sym, ◌∙◌}
use Rattle.line_place.proofs.Places.{no_start, word_read}
use Rattle.line_place.proofs.line_here.Goals as goal

pub returns-then-line_starts : goal.returns-then-line_starts
returns-then-line_starts c =
    c.is_some.ensures ∙ word_read _ _ _ (sym c.line_starts.ensures ∙ c.if-line_starts.true) c.read_word.ensures

pub returns-else-line_starts : goal.returns-else-line_starts
returns-else-line_starts c = c.if-line_starts.false ∙ no_start _ _ _ (sym c.line_starts.ensures ∙ c.if-line_starts.false)
