-- Lines in a window, one after another.
use Prim.Native.Nat.{ℕ, ◌+◌, ◌*◌, ◌≤◌, ◌<◌}
use mathlib.Core.Path.{◌≡◌, sym, ap, ◌∙◌}
use mathlib.Core.List.{List, [], ◌∷◌, ◌++◌, append-nil}
use native.Mathlib.Nat.{le_antisymm, mul-add}
use native.Mathlib.Omega.{arith}
use Rattle.day_lines.specs.declared.Event.{Event}
use Rattle.day_lines.specs.Lines.{event_text, events_text}
use Rattle.day_lines.proofs.Events.{events_append}
use Rattle.day_window.specs.Window.{Windowed}
use Rattle.day_window.proofs.Windows.{none, then, recast}

-- an event alone
pub alone : (e : Event) → event_text e ≡ events_text (e ∷ [])
alone e = sym (append-nil (event_text e))

-- an event that was written is the one to tell
pub told : {a b xs : List ℕ} {s i j : ℕ} {d e : Event} → event_text e ≡ xs → Windowed a s i (event_text d) b j → d ≡ e → Windowed a s i xs b j
told p w q = recast (ap event_text q ∙ p) w

-- the first k of n parts are written, w bytes each at most
pub record Saying (w : ℕ) (es : ℕ → List Event) (n : ℕ) (before : List ℕ) (skip at : ℕ) (now : List ℕ) (end k : ℕ) : Type 0 where
  pub wrote : Windowed before skip at (events_text (es k)) now end
  pub near : end ≤ at + w * k
  pub inside : k ≤ n

module _ (w : ℕ) (es : ℕ → List Event) (n : ℕ) where
  pub begun : (before : List ℕ) (skip at : ℕ) → [] ≡ es 0 → Saying w es n before skip at before at 0
  begun before skip at e = record { wrote = recast (ap events_text e) (none before skip at); near = omega arith; inside = omega arith }

  module _ {before now : List ℕ} {skip at end k : ℕ} (h : Saying w es n before skip at now end k) where
    -- one part more
    pub onward : {now' : List ℕ} {from end' : ℕ} (more : List Event) → k < n → es k ++ more ≡ es (k + 1)
        → Windowed now skip from (events_text more) now' end' → end' ≤ from + w → from ≡ end → Saying w es n before skip at now' end' (k + 1)
    onward {now'} {from} {end'} more l e t b f = record {
      wrote = recast (sym (events_append (es k) more) ∙ ap events_text e) (then h.wrote (rw (sym f) t));
      near = omega (arith, h.near, b, f, mul-add w k 1);
      inside = omega (arith, l);
    }

    -- all of them
    pub all : n ≤ k → Windowed before skip at (events_text (es n)) now end
    all l = recast (ap (λ (m : ℕ). events_text (es m)) (le_antisymm h.inside l)) h.wrote
