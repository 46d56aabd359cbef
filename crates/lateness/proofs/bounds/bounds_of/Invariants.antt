-- `lateness::bounds::bounds_of` meets its contract: of the lines from i on the movers are known, and what is noted of each.
use mathlib.Core.Path.{◌≡◌}
use lib.ListN.{length, drop}
use Rattle.units.specs.Limits.{cores_limit}
use Rattle.lateness.specs.Inner.{MoversOf}
use Rattle.lateness.proofs.Tasks.{Noted}
use Rattle.lateness.proofs.bounds.bounds_of.Given as goal

abbrev pub invariant-loop-i : goal.invariant-loop-i
invariant-loop-i l =
    MoversOf (drop l.i l.plan.lines) (record { upper = l.upper; lower = l.lower }) × (length l.lower ≡ cores_limit)
    × Noted l.plan l.i l.notes
