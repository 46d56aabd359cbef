-- `turn::turn_of` meets its contract.
use Prim.Native.Nat.{suc}
use mathlib.Core.Path.{◌≡◌}
use lib.ListN.{drop}
use Rattle.units.specs.Units.{nums}
use Rattle.turn.specs.Turn.{best_from, nobody}
use Rattle.turn.proofs.turn_of.Given as goal

-- the cores that are left give the same best core as all
abbrev pub invariant-loop-j : goal.invariant-loop-j
invariant-loop-j l =
    best_from l.w l.place (suc l.j) l.best (drop l.j (nums l.shares)) (drop l.j l.counts)
    ≡ best_from l.w l.place 1 nobody (nums l.shares) l.counts
