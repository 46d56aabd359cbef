-- `day_text::read_day` meets its contract.
use Rattle.std.specs.declared.result.Result.TheVariants.{Err}
use mathlib.Core.Path.{◌≡◌, refl, ◌∙◌}
use borrow.Author.Rules.{rules}
use Rattle.day_text.proofs.Answers.{unread, reads}
use Rattle.day_text.proofs.read_day.Goals as goal

pub returns-in_err-cores : goal.returns-in_err-cores
returns-in_err-cores c =
    let s = c.args in
    let r = c.in_err-cores.ensures in
    let e : c.from_residual.result ≡ Err c.in_err-cores.field-0.0 = search rules in
    let w = unread s.text.now s.table.now s.arrivals.now c.stop_place-place.ensures.value r.value r.table_after refl in
    record { value = e ∙ w.0; table_after = w.1.0; arrivals_after = w.1.1 }

pub returns : goal.returns
returns c =
    let s = c.args in
    let r = c.in_ok-cores.ensures in
    let a = c.read_stopped.ensures in
    let w = reads s.text.now s.table.now s.arrivals.now c.stop_place-place.ensures.value r.value r.table_after refl a.value a.arrivals_after in
    record { value = w.0; table_after = w.1.0; arrivals_after = w.1.1 }
