-- The lines of events, in parts.
use mathlib.Core.Path.{◌≡◌, refl, sym, ap, ◌∙◌}
use mathlib.Core.List.{List, [], ◌∷◌, ◌++◌, append_assoc, append-nil}
use Prim.Native.Nat.{ℕ}
use Rattle.day_lines.specs.declared.Event.{Event}
use Rattle.day_lines.specs.Lines.{event_text, events_text}

-- events and then others
pub events_append : (ds es : List Event) → events_text (ds ++ es) ≡ events_text ds ++ events_text es
events_append [] es = refl
events_append (d ∷ ds) es =
    ap (λ (t : List ℕ). event_text d ++ t) (events_append ds es) ∙ sym (append_assoc (event_text d) (events_text ds) (events_text es))

-- and one more
pub events_more : (es : List Event) (e : Event) → events_text (es ++ (e ∷ [])) ≡ events_text es ++ event_text e
events_more es e = events_append es (e ∷ []) ∙ ap (λ (t : List ℕ). events_text es ++ t) (append-nil (event_text e))
