-- `line_place::line_starts` meets its contract.
use mathlib.Core.Path.{refl}
use borrow.Author.Tests.{ne_eqb}
use Rattle.line_place.proofs.line_starts.Goals as goal

pub returns-then-at-eq0 : goal.returns-then-at-eq0
returns-then-at-eq0 c = rw c.if-at-eq0.true refl

pub returns : goal.returns
returns c = rw (ne_eqb _ 0 c.if-at-eq0.false) refl
