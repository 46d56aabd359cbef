-- `planning::drawn` meets its contract.
use Rattle.planning.specs.Plan.{lines_of, padded_lines, plan_for}
use Rattle.planning.specs.declared.Line.{Line}
use Rattle.assignment.specs.Passes.{shares_of}
use Rattle.units.specs.Units.{nums}
use lib.ListN.{length}
use mathlib.Core.List.{List}
use mathlib.Core.Path.{ap, ◌∙◌}
use Prim.Native.Nat.{ℕ, ◌/◌}
use Rattle.planning.proofs.drawn.Goals as goal

pub returns : goal.returns
unfolding plan_for
returns c =
    let s = c.args in
    let room = c.rooms_of-room in
    let rows = c.shares_of-rows in
    ap (λ (lns : List Line). record { cores = s.cores; count = length s.table.now / 2; common = s.common; lines = lns })
    (c.lines_of-lines.ensures ∙ ap (λ (tab : List (List ℕ)). padded_lines (lines_of s.table.now (nums s.weights) tab))
    (rows.ensures ∙ ap (shares_of (nums s.weights)) room.ensures))
