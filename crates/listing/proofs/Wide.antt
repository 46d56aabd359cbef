-- A plan's array of lines: each has sixteen shares.
use Prim.Native.Nat.{ℕ, zero, suc, ◌<◌}
use mathlib.Core.Path.{◌≡◌}
use mathlib.Core.List.{List, [], ◌∷◌}
use native.Mathlib.Omega.{arith}
use lib.ListN.{length, get_or}
use mir.Val.{Val}
use denote.Array.{each}
use denote.Shadow.{shadow}
use Rattle.units.specs.Limits.{cores_limit}
use Rattle.planning.specs.declared.Line.{Line}
use Rattle.planning.specs.Plan.{no_line}
use Rattle.planning.specs.contracts.Line.{the_row}

-- each of them
pub wide : (lns : List Line) (us : List Val) → shadow (each the_row.Denot the_row.own_val lns us) → (i : ℕ)
    → i < length lns → length (get_or lns i no_line).shares ≡ cores_limit
wide [] us p i h = absurd (omega arith)
wide (ln ∷ lns) [] p i h = absurd p
wide (ln ∷ lns) (u ∷ us) p zero h = p.0.1.1.1.1.1.0.1.0.1
wide (ln ∷ lns) (u ∷ us) p (suc i) h = wide lns us p.1 i (omega arith)
