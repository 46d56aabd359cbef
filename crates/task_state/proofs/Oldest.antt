-- Without the oldest of eight runs the others move up: its cores and its deadlines alike.
use Prim.Native.Nat.{ℕ, zero, suc}
use mathlib.Core.Path.{◌≡◌, refl, sym, ◌∙◌}
use mathlib.Core.List.{List, [], ◌∷◌, ◌++◌, map}
use native.Mathlib.Omega.{arith}
use lib.ListN.{length, get_or, drop, drop_of_length-le, length-append, length-drop, length-map}
use lib.Seq.{drop-cons}
use Rattle.units.specs.declared.ticks.Ticks.{Ticks}
use Rattle.units.specs.Limits.{runs_limit}
use Rattle.units.specs.contracts.ticks.Ticks.{the_field}

-- the length of a task's array of deadlines
pub deadlines_long : (ds : List Ticks) → length (map the_field.into ds) ≡ runs_limit → length ds ≡ runs_limit
deadlines_long ds e = sym (length-map ds the_field.into) ∙ e

module _ {A : Type 0} (none : A) where
  -- none at the end of a list is as if it stood past it
  none_last : (xs : List A) (k : ℕ) → get_or (xs ++ (none ∷ [])) k none ≡ get_or xs k none
  none_last [] zero = refl
  none_last [] (suc k) = refl
  none_last (x ∷ xs) zero = refl
  none_last (x ∷ xs) (suc k) = none_last xs k

  -- so each place holds what stood after it
  pub next_up : (xs : List A) (k : ℕ) → get_or (drop 1 xs ++ (none ∷ [])) k none ≡ get_or xs (suc k) none
  next_up [] k = none_last [] k
  next_up (x ∷ xs) k = none_last xs k

  -- the length stays
  pub up_long : (xs : List A) → length xs ≡ runs_limit → length (drop 1 xs ++ (none ∷ [])) ≡ runs_limit
  up_long xs e = length-append (drop 1 xs) (none ∷ []) ∙ simp length-drop (omega (arith, e))

  -- seven move up and none comes last
  abbrev pub moved_up : List A → List A
  moved_up xs = get_or xs 1 none ∷ get_or xs 2 none ∷ get_or xs 3 none ∷ get_or xs 4 none ∷ get_or xs 5 none ∷ get_or xs 6 none ∷ get_or xs 7 none ∷ none ∷ []

  -- what is left of eight without the oldest
  pub moved_up_lem : (xs : List A) → length xs ≡ runs_limit → drop 1 xs ++ (none ∷ []) ≡ moved_up xs
  moved_up_lem xs e =
      rw (
        drop-cons xs 1 none (omega arith),
        drop-cons xs 2 none (omega arith),
        drop-cons xs 3 none (omega arith),
        drop-cons xs 4 none (omega arith),
        drop-cons xs 5 none (omega arith),
        drop-cons xs 6 none (omega arith),
        drop-cons xs 7 none (omega arith),
        drop_of_length-le xs {i = 8} (omega arith),
      )
