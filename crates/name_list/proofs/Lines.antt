-- The names of the lines from a place on, as the code meets them: one line and those after it.
use Rattle.std.specs.declared.option.Option.TheVariants.{Some, None}
use Prim.Native.Nat.{ℕ, zero, suc, ◌+◌, ◌-◌, ◌≤◌, ◌<◌}
use mathlib.Core.Path.{◌≡◌, refl, sym, ap, ◌∙◌}
use mathlib.Core.List.{List, [], ◌∷◌}
use native.Mathlib.Omega.{arith}
use borrow.Author.Tests.{lt-ltb, le-ltb, eq-eqb, ne_eqb, eqb-false}
use lib.Dec.{ltb, eqb}
use lib.ListN.{length}
use Rattle.lists.proofs.Tests.{by_cases}
use Rattle.writing.specs.Ascii.{newline}
use Rattle.scanning.specs.Lines.{unless_zero}
use Rattle.scanning.proofs.Sought.{told, untold}
use Rattle.names.specs.Name.{name_at, name_end}
use Rattle.names.proofs.Written.{name_ahead}
use Rattle.names.proofs.Parts.{parted}
use Rattle.name_list.specs.Names.{names_from}

-- a line that is a name
module _ (s : List ℕ) (at : ℕ) {next : ℕ} (p : Some next ≡ unless_zero (name_end s newline at)) where
  -- the place after it is further on
  pub line_ahead : at < next
  line_ahead = omega (arith, (parted s newline at (omega arith) p).far)

  -- and within the text
  pub line_ends : next ≤ length s
  line_ends = (parted s newline at (omega arith) p).ends

-- at the end of the text there is no name
past : (f : ℕ) (s : List ℕ) (at : ℕ) → length s ≤ at → names_from f s at ≡ []
unfolding names_from
past zero s at h = refl
past (suc f) s at h = rw (le-ltb at (length s) h)

-- any f that is no less than the lines' number gives the same names
enough : (f g : ℕ) (s : List ℕ) (at : ℕ) → length s ≤ at + f → length s ≤ at + g → names_from f s at ≡ names_from g s at
unfolding names_from
enough zero g s at h k = sym (past g s at (omega arith))
enough (suc f) zero s at h k = past (suc f) s at (omega arith)
enough (suc f) (suc g) s at h k =
    by_cases (eqb (name_end s newline at) 0)
    (λ e. rw e refl)
    (λ e.
    let a = name_ahead s newline at (eqb-false _ 0 e) in
    rw (e, enough f g s (name_end s newline at) (omega (arith, a, h)) (omega (arith, a, k))) refl)

-- a line that is no name ends them
none : (f : ℕ) (s : List ℕ) (at : ℕ) → name_end s newline at ≡ 0 → names_from f s at ≡ []
unfolding names_from
none zero s at p = refl
none (suc f) s at p = by_cases (ltb at (length s)) (λ h. rw (h, eq-eqb _ 0 p)) (λ h. rw h)

-- a name comes before the later ones
later : (f g : ℕ) (s : List ℕ) (at : ℕ) → f ≡ suc g → at < length s → (name_end s newline at ≡ 0 → ⊥)
    → names_from f s at ≡ name_at s at ∷ names_from g s (name_end s newline at)
unfolding names_from
later f g s at e h p = rw (e, lt-ltb at (length s) h, ne_eqb _ 0 p)

-- all of them from a place on
abbrev pub names_here : List ℕ → ℕ → List (List ℕ)
names_here s at = names_from (length s) s at

module _ (s : List ℕ) (at : ℕ) where
  -- none is read
  pub names_none : None ≡ unless_zero (name_end s newline at) → names_here s at ≡ []
  names_none p = none (length s) s at (untold p)

  -- one is, before the later ones
  pub names_later : {next : ℕ} → Some next ≡ unless_zero (name_end s newline at) → names_here s at ≡ name_at s at ∷ names_here s next
  names_later {next} p =
      let z = (told p).1 in
      later (length s) (length s - 1) s at (omega (arith, line_ahead s at p, line_ends s at p)) (omega (arith, line_ahead s at p, line_ends s at p)) z
      ∙ ap (λ (l : List (List ℕ)). name_at s at ∷ l)
      (enough (length s - 1) (length s) s (name_end s newline at) (omega (arith, name_ahead s newline at z)) (omega arith)
      ∙ ap (names_here s) (sym (told p).0))
