-- The equations of the arrivals' lines, as the code meets them: one line and those after it.
use Rattle.std.specs.declared.option.Option.TheVariants.{Some, None}
use Prim.Native.Nat.{ℕ, zero, suc}
use mathlib.Core.Path.{◌≡◌, refl}
use mathlib.Core.List.{List, [], ◌∷◌}
use Rattle.day_text.specs.Line.{arrival_line}
use Rattle.day_text.specs.Input.{then_later, arrivals_from, then_place, place_after}

module _ (s : List ℕ) (at : ℕ) where
  -- an unreadable line has no number
  pub arrivals_none : (f : ℕ) → arrival_line s at ≡ None → arrivals_from f s at ≡ []
  unfolding arrivals_from then_later
  arrivals_none zero p = refl
  arrivals_none (suc f) p = rw p refl

  -- and is where they end
  pub place_none : (f : ℕ) → arrival_line s at ≡ None → place_after f s at ≡ at
  unfolding place_after then_place
  place_none zero p = refl
  place_none (suc f) p = rw p refl

  module _ (f g : ℕ) (e : f ≡ suc g) {t i l next : ℕ} (p : arrival_line s at ≡ Some (t, i, l, next)) where
    -- an arrival's numbers come before the later ones
    pub arrivals_later : arrivals_from f s at ≡ t ∷ i ∷ l ∷ arrivals_from g s next
    unfolding arrivals_from then_later
    arrivals_later = rw (e, p) refl

    -- and the later ones end where they all do
    pub place_later : place_after f s at ≡ place_after g s next
    unfolding place_after then_place
    place_later = rw (e, p) refl
