-- `day_writing::put_arrival_numbered` meets its contract.
use Prim.Native.Nat.{ℕ}
use mathlib.Core.Path.{◌≡◌, refl}
use mathlib.Core.Bool.{cond}
use mathlib.Core.List.{[], ◌∷◌}
use borrow.Author.Tests.{eq-eqb, ne_eqb}
use lib.Dec.{eqb}
use Rattle.units.specs.declared.ticks.Ticks.{Ticks}
use Rattle.day_lines.specs.declared.Event.TheVariants.{Refused}
use Rattle.day_lines.specs.Lines.{event_text, events_text}
use Rattle.day_window.proofs.Windows.{none, recast}
use Rattle.day_window.proofs.Saying.{alone, told}
use Rattle.day_writing.proofs.put_arrival_numbered.Goals as goal

-- nothing is said of an arrival, or its refusal
module _ {no : ℕ} (k i : ℕ) (t : Ticks) where
  taken : no ≡ 0 → [] ≡ events_text (cond (eqb no 0) [] (Refused no k i t ∷ []))
  taken e = rw (eq-eqb no 0 e) refl

  refused : (no ≡ 0 → ⊥) → event_text (Refused no k i t) ≡ events_text (cond (eqb no 0) [] (Refused no k i t ∷ []))
  refused e = rw (ne_eqb no 0 e) (alone (Refused no k i t))

pub returns-then-no-eq0-clause-windowed : goal.returns-then-no-eq0-clause-windowed
returns-then-no-eq0-clause-windowed c = let s = c.args in recast (taken s.arrival s.task s.time c.if-no-eq0.true) (none _ _ _)

pub returns-clause-windowed : goal.returns-clause-windowed
returns-clause-windowed c =
    let s = c.args in
    told (refused s.arrival s.task s.time c.if-no-eq0.false) c.put_within.ensures.windowed refl
