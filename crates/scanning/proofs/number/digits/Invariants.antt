-- `scanning::number::digits` meets its contract.
use Prim.Native.Nat.{◌≤◌, ◌<◌}
use mathlib.Core.Path.{◌≡◌}
use lib.ListN.{length, drop}
use Rattle.scanning.specs.Number.{digits_of}
use Rattle.scanning.proofs.number.digits.Given as goal

abbrev pub invariant-loop-at : goal.invariant-loop-at
invariant-loop-at l =
    (l.at ≤ length l.text) × (l.v < l.bound) × (digits_of l.bound (drop l.from l.text) l.first l.from ≡ digits_of l.bound (drop l.at l.text) l.v l.at)
