-- The first entry leaves, and the others move up.
use Prim.Native.Nat.{◌<◌}
use mathlib.Core.Path.{◌≡◌, refl}
use mathlib.Core.List.{List, [], ◌∷◌, ◌++◌}
use native.Mathlib.Omega.{arith}
use lib.ListN.{length, take, drop, set}

-- where it is overwritten, it is the last one after a turn to the left
pub moved_up : {A : Type 0} (xs : List A) (v : A) → 0 < length xs → drop 1 (set xs 0 v) ++ take 1 (set xs 0 v) ≡ drop 1 xs ++ (v ∷ [])
moved_up [] v h = absurd (omega arith)
moved_up (x ∷ xs) v h = refl
