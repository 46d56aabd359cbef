-- `calls_text::line::read_call` meets its contract.
use mathlib.Core.Path.{sym, ap, ◌∙◌}
use Rattle.dispatch.specs.declared.call.Call.TheVariants.{Release, Finish, Look}
use Rattle.calls_text.specs.Line.{call_or, look_line, finish_line, call_line}
use Rattle.calls_text.proofs.line.read_call.Goals as goal

pub returns-in-Some : goal.returns-in-Some
unfolding call_or call_line
returns-in-Some c =
    c.read_numbers.ensures Release (λ i t r p. p.1) ∙ sym (ap (call_or Release _ _) (sym c.in-Some.ensures))

pub returns-in-Some-read_word : goal.returns-in-Some-read_word
unfolding call_or finish_line call_line
returns-in-Some-read_word c =
    rw (sym c.in_default.ensures, sym c.in-Some-read_word.ensures) (c.read_numbers-in-Some-read_word.ensures Finish (λ i t r p. p.1))

pub returns-in_err-next : goal.returns-in_err-next
unfolding call_or look_line finish_line call_line
returns-in_err-next c =
    rw (sym c.in_default.ensures, sym c.in_default-read_word.ensures, sym c.in_err-next.ensures) c.from_residual.ensures

pub returns : goal.returns
unfolding call_or look_line finish_line call_line
returns c =
    rw (sym c.in_default.ensures, sym c.in_default-read_word.ensures, sym c.in_ok-next.ensures) (c.read_numbers-2.ensures Look (λ i t r p. p.1))
