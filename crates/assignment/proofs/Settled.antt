-- Any two answers that a public function's contract allows are equal.
use Prim.Native.Nat.{ℕ}
use mathlib.Core.Path.{◌≡◌, refl, sym, ap, ◌∙◌}
use mathlib.Core.List.{List, [], ◌∷◌, map}
use Rattle.lists.specs.Settled.{Settled}
use Rattle.units.specs.Units.{units}
use Rattle.units.proofs.Units.{units_nums}
use Rattle.assignment.specs.declared.Row.{Row}
use Rattle.assignment.specs.Passes.{rows_of}
use Rattle.assignment.proofs.shares_of.Reads as SharesOf

-- a row with these numbers
abbrev row : List ℕ → Row
row ns = record { shares = units ns }

-- rows are the rows with their numbers
from_numbers : (rs : List Row) → map row (rows_of rs) ≡ rs
from_numbers [] = refl
from_numbers (r ∷ rs) =
    ap (λ (s : Row). s ∷ map row (rows_of rs)) (ap (λ ss. record { shares = ss }) (units_nums r.shares)) ∙ ap (λ (ts : List Row). r ∷ ts) (from_numbers rs)

pub shares_of_lem : Settled SharesOf.Post
shares_of_lem κs a x y e f p q = sym (from_numbers x) ∙ ap (map row) (p ∙ sym q) ∙ from_numbers y
