-- `sheet_writing::write_test` meets its contract.
use mathlib.Core.Path.{◌≡◌, refl, sym, ◌∙◌}
use Rattle.std.proofs.Common.{Err, rules}
use Rattle.units.proofs.Refusals.{refuses}
use Rattle.admission.specs.Admission.{refused_with}
use Rattle.sheet_writing.proofs.Refused.{wrong_tick, wrong_names, planning}
use Rattle.sheet_writing.proofs.write_test.Goals as goal

pub returns-then-not-tick_in : goal.returns-then-not-tick_in
returns-then-not-tick_in c = c.from.ensures ∙ wrong_tick _ _ _ _ (sym c.tick_in.ensures ∙ c.if-not-tick_in.true)

pub returns-in_err-names_test : goal.returns-in_err-names_test
returns-in_err-names_test c =
    let s = c.args in
    let r = c.in_err-names_test.field-0.0 in
    let e : c.from_residual.result ≡ Err r = search rules in
    rw e (wrong_names s.cores s.table.now s.names.now s.tick (sym c.tick_in.ensures ∙ c.if-not-tick_in.false)
    c.in_err-names_test.ensures (λ z. refuses r.reason z))

pub returns-in_err-admit : goal.returns-in_err-admit
unfolding refused_with
returns-in_err-admit c =
    let r = c.in_err-admit.field-0.0 in
    let e : c.from_residual-in_err-admit.result ≡ Err r = search rules in
    rw e (planning _ _ _ _ (sym c.tick_in.ensures ∙ c.if-not-tick_in.false) c.in_ok-names_test.ensures refl c.in_err-admit.ensures)

pub returns : goal.returns
returns c =
    planning _ _ _ _ (sym c.tick_in.ensures ∙ c.if-not-tick_in.false) c.in_ok-names_test.ensures refl c.in_ok-admit.ensures
