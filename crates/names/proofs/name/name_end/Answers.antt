-- `names::name::name_end` meets its contract.
use mathlib.Core.Path.{sym, ◌∙◌}
use native.Mathlib.Omega.{arith}
use Rattle.names.proofs.Ends.{none_past, none_long, none_end, none_other, some_is}
use Rattle.names.proofs.name.name_end.Goals as goal

pub returns-in_err-rest : goal.returns-in_err-rest
returns-in_err-rest c = c.from_residual.ensures ∙ none_past _ _ _ (omega (arith, c.in_err-rest.ensures.lookup.0))

pub returns-then-count-eq0 : goal.returns-then-count-eq0
returns-then-count-eq0 c = none_long _ _ _ c.in_ok-rest.ensures.lookup.0.2 c.letters_of-count.ensures c.then-count-eq0.either

pub returns-in_err-get : goal.returns-in_err-get
returns-in_err-get c =
    c.from_residual-in_err-get.ensures
    ∙ none_end _ _ _ c.in_ok-rest.ensures.lookup.0.2 c.letters_of-count.ensures c.if-count-eq0.false c.if-count-gt-LETTERS.false c.requires
    c.in_err-get.ensures.lookup.3

pub returns-then-branch-end : goal.returns-then-branch-end
returns-then-branch-end c =
    let read = c.in_ok-get.ensures.lookup.3.1 0 in
    let rest = c.in_ok-rest.ensures.lookup.0.2 in
    some_is _ _ _ rest c.letters_of-count.ensures c.if-count-eq0.false c.if-count-gt-LETTERS.false (sym read ∙ c.if-branch-end.true)

pub returns-else-branch-end : goal.returns-else-branch-end
returns-else-branch-end c =
    let read = c.in_ok-get.ensures.lookup.3.1 0 in
    let rest = c.in_ok-rest.ensures.lookup.0.2 in
    none_other _ _ _ rest c.letters_of-count.ensures c.if-count-eq0.false c.if-count-gt-LETTERS.false (λ z. c.if-branch-end.false (read ∙ z))
