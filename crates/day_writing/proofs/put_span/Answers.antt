-- `day_writing::put_span` meets its contract: a run's span ends. The other answer is found.
use Prim.Native.Nat.{ℕ, ◌+◌}
use mathlib.Core.Path.{◌≡◌, refl, sym, ap, ◌∙◌}
use mathlib.Core.Bool.{false}
use native.Mathlib.Numerals.{add-one}
use borrow.Author.Tests.{ne_eqb}
use Rattle.units.specs.Units.{ticks}
use Rattle.goings.specs.declared.Going.{Going}
use Rattle.goings.specs.Going.{same}
use Rattle.day_lines.specs.declared.Event.TheVariants.{Spanned}
use Rattle.day_lines.specs.Lines.{event_text, events_text}
use Rattle.day_window.proofs.Saying.{alone, told}
use Rattle.day_rules.specs.Day.{ran, span_end}
use Rattle.day_writing.proofs.put_span.Goals as goal

a_span : (p : ℕ) (g : Going) (i n t : ℕ) → same g i n ≡ false → (g.task ≡ 0 → ⊥)
    → event_text (Spanned (record { core = p + 1; task = g.task; run = g.run }) g.from (ticks t)) ≡ events_text (span_end p g i n t)
a_span p g i n t e h =
    rw (e, ne_eqb g.task 0 h) (ap (λ (k : ℕ). event_text (Spanned (record { core = k; task = g.task; run = g.run }) g.from (ticks t))) (add-one p)
    ∙ alone (Spanned (ran p g.task g.run) g.from (ticks t)))

pub returns-clause-windowed : goal.returns-clause-windowed
returns-clause-windowed c =
    let s = c.args in
    let e = sym c.is_run.ensures ∙ c.if-is_run.false in
    told (a_span s.core s.old s.new.task s.new.run s.time.0 e c.if-old-eq0.false) c.put_within.ensures.windowed refl
