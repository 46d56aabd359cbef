-- `unfinished_runs::put_runs` meets its contract.
use Rattle.day_window.proofs.Saying.{Saying}
use Rattle.day_rules.specs.Day.{runs_left}
use Rattle.unfinished_runs.proofs.put_runs.Given as goal

abbrev pub invariant-loop-k : goal.invariant-loop-k
invariant-loop-k l = Saying 180 (runs_left l.state l.work l.had l.task) l.state.live l.initial.out l.skip l.at l.out l.end l.k
