-- The equations of a word at a place, as the code meets them.
use Rattle.std.specs.declared.option.Option.TheVariants.{Some, None}
use Rattle.std.proofs.Common.{Bor}
use Rattle.std.specs.Option.{MatchOption, unwrap_or}
use Rattle.std.specs.List.{starts_with, slice_range}
use Rattle.std.specs.Prelude.{Option, Bool, true, false, ◌&&◌}
use Prim.Native.Nat.{ℕ, ◌+◌, ◌≤◌, ◌<◌}
use mathlib.Core.Path.{◌≡◌, refl, sym, ap, ◌∙◌}
use mathlib.Core.Logic.{◌⊎◌}
use mathlib.Core.List.{List, [], ◌∷◌}
use native.Mathlib.Omega.{arith}
use borrow.Author.Tests.{ne_eqb, eqb-true, eqb-false}
use lib.Dec.{eqb}
use lib.ListN.{length, drop, drop_of_length-le}
use Rattle.lists.proofs.Tests.{by_cases}
use Rattle.scanning.specs.Word.{starts, word_at}
use Rattle.scanning.proofs.Fields.{rest_is}

-- what the library says of a part of a text that reaches to its end
abbrev pub Lookup : List ℕ → ℕ → Option (Bor (List ℕ)) → Type 0
Lookup s at o =
    MatchOption o ((length s < at) ⊎ (length s < length s))
    (λ x. (at ≤ length s) × (length s ≤ length s) × (x.now ≡ slice_range s at (length s)) × (length x.now + at ≡ length s))

-- two bytes are compared in either order
either_order : (a b : ℕ) → eqb a b ≡ eqb b a
either_order a b = by_cases (eqb a b) (λ h. rw (eqb-true a b h) refl) (λ h. h ∙ sym (ne_eqb b a (λ e. eqb-false a b h (sym e))))

-- the library's test is that the text starts with the word
pub starts_is : (w s : List ℕ) → starts_with eqb s w ≡ starts w s
starts_is [] s = refl
starts_is (c ∷ w) [] = refl
starts_is (c ∷ w) (b ∷ s) = rw (either_order c b) (ap (λ (t : Bool). eqb b c && t) (starts_is w s))

-- what is left of a text from a place on, and nothing past its end
pub rest_from : (s : List ℕ) (at : ℕ) (o : Option (Bor (List ℕ))) (past : Bor (List ℕ)) → past.now ≡ [] → Lookup s at o → (unwrap_or o past).now ≡ drop at s
rest_from s at None past e h = e ∙ sym (drop_of_length-le s (omega (arith, h)))
rest_from s at (Some x) past e h = h.2 ∙ rest_is s at

module _ (w s : List ℕ) (at : ℕ) where
  -- a word that stands there is read
  pub read_here : starts w (drop at s) ≡ true → Some (at + length w) ≡ word_at w s at
  unfolding word_at
  read_here e = rw e refl

  -- another is not
  pub read_none : starts w (drop at s) ≡ false → None ≡ word_at w s at
  unfolding word_at
  read_none e = rw e refl

  -- a word that was read stands there, and ends after its length
  pub word_here : {next : ℕ} → word_at w s at ≡ Some next → (starts w (drop at s) ≡ true) × (next ≡ at + length w)
  unfolding word_at
  word_here {next} e =
      by_cases (starts w (drop at s))
      (λ h. let f = rw h at e in let z : at + length w ≡ next = cc in (h, sym z))
      (λ h. let f = rw h at e in let z : ◌≡◌ {A = ℕ} 0 1 = cc in absurd (omega arith))
