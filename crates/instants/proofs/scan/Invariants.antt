-- `instants::scan` meets its contract.
use mathlib.Core.Path.{◌≡◌}
use lib.ListN.{length}
use Rattle.units.specs.Limits.{cores_limit}
use Rattle.units.specs.Units.{ticks}
use Rattle.front_rows.specs.Rows.{fronts_in}
use Rattle.instants.specs.Seen.{seen_of, next_of}
use Rattle.instants.proofs.scan.Given as goal

abbrev pub invariant-loop-i : goal.invariant-loop-i
invariant-loop-i l =
    (length l.seen ≡ cores_limit)
    × (l.seen ≡ seen_of (fronts_in l.fronts) l.had l.time.0 l.i)
    × (l.next ≡ ticks (next_of (fronts_in l.fronts) l.time.0 l.initial.next.0 l.i))
