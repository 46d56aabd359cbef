-- `scanning::line::read_field` meets its contract.
use mathlib.Core.Path.{sym, ◌∙◌}
use native.Mathlib.Omega.{arith}
use Rattle.scanning.proofs.Fields.{inside, field_none, field_is, field_other}
use Rattle.scanning.proofs.line.read_field.Goals as goal

pub overflow_add-result : goal.overflow_add-result
overflow_add-result c =
    omega (arith, inside c.args.text.now c.in_ok-v.a c.args.end c.requires.1 (sym c.byte_at.ensures ∙ c.if-byte_at-end.true))

pub returns-in_err-v : goal.returns-in_err-v
returns-in_err-v c = c.from_residual.ensures ∙ sym (field_none _ _ _ _ (sym c.in_err-v.ensures))

pub returns-then-byte_at-end : goal.returns-then-byte_at-end
returns-then-byte_at-end c =
    sym (field_is _ _ _ _ (sym c.in_ok-v.ensures) (sym c.byte_at.ensures ∙ c.if-byte_at-end.true))

pub returns-else-byte_at-end : goal.returns-else-byte_at-end
returns-else-byte_at-end c =
    sym (field_other _ _ _ _ (sym c.in_ok-v.ensures) (λ e. c.if-byte_at-end.false (c.byte_at.ensures ∙ e)))
