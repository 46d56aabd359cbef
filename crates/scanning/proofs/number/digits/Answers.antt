-- `scanning::number::digits` meets its contract.
use Rattle.std.specs.declared.option.Option.TheVariants.{Some}
use native.Mathlib.Omega.{arith}
use borrow.Author.Rules.{rules}
use Prim.Native.Nat.{ℕ}
use mathlib.Core.Path.{refl, sym, ap, ◌∙◌}
use Rattle.scanning.proofs.Digits.{digits_end, digits_large, digits_more, digits_done}
use Rattle.scanning.proofs.number.digits.Goals as goal

pub loop-at-init : goal.loop-at-init
loop-at-init c = (search rules, search rules, refl)

pub returns-then-d-gt9 : goal.returns-then-d-gt9
returns-then-d-gt9 c =
    let l = c.loop-at in
    sym (l.invariant.2 ∙ digits_end _ _ _ _ _ c.loop-at-test.true c.digit-d.ensures.value c.if-d-gt9.true)

pub returns-then-bound-w : goal.returns-then-bound-w
returns-then-bound-w c =
    let l = c.loop-at in
    sym (l.invariant.2 ∙ digits_large _ _ _ _ _ c.loop-at-test.true c.digit-d.ensures.value
    c.if-d-gt9.false (omega arith))

pub loop-at-preserved : goal.loop-at-preserved
loop-at-preserved c =
    let l = c.loop-at in (
      search rules,
      search rules,
      l.invariant.2 ∙ digits_more _ _ _ _ _ c.loop-at-test.true c.digit-d.ensures.value
          c.if-d-gt9.false (omega arith),
    )

pub returns : goal.returns
returns c =
    let l = c.loop-at in
    sym (l.invariant.2 ∙ digits_done _ _ _ _ c.loop-at-test.false ∙ ap (λ (k : ℕ). Some (l.v, k)) (omega arith))
