-- `unfinished_runs::put_unfinished` meets its contract.
use Prim.Native.Nat.{◌*◌}
use Rattle.day_window.proofs.Saying.{Saying}
use Rattle.units.specs.Limits.{runs_limit}
use Rattle.unfinished_runs.specs.Left.{left_by}
use Rattle.unfinished_runs.proofs.put_unfinished.Given as goal

abbrev pub invariant-loop-i : goal.invariant-loop-i
invariant-loop-i l = Saying (180 * runs_limit) (left_by l.seats l.had) l.count l.initial.out l.skip l.at l.out l.end l.i
