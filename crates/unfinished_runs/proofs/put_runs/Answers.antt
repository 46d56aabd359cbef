-- `unfinished_runs::put_runs` meets its contract.
use mathlib.Core.Path.{refl}
use mathlib.Core.List.{[], ◌∷◌}
use Rattle.day_window.proofs.Windows.{recast}
use Rattle.day_window.proofs.Saying.{alone, onward}
use Rattle.day_rules.specs.Day.{runs_left}
use Rattle.unfinished_runs.specs.Inner.{run_left}
use Rattle.unfinished_runs.proofs.Left.{runs_more}
use Rattle.unfinished_runs.proofs.put_runs.Goals as goal

pub loop-k-preserved : goal.loop-k-preserved
loop-k-preserved c =
    let s = c.args in
    let e = run_left s.state s.work s.had s.task c.loop-k.k in
    onward 180 (runs_left s.state s.work s.had s.task) s.state.live c.loop-k.invariant (e ∷ []) c.loop-k-test.true
    (runs_more s.state s.work s.had s.task c.loop-k.k) (recast (alone e) c.put_run-end.ensures.windowed) c.put_run-end.ensures.upper_bound refl
