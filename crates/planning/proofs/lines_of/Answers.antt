-- `planning::lines_of` meets its contract.
use Rattle.units.proofs.Units.{nums_length}
use Rattle.units.specs.Limits.{tasks_limit}
use Prim.Native.Nat.{◌+◌, ◌*◌}
use borrow.Author.Rules.{rules}
use Rattle.planning.proofs.Filling.{start, step, finish, line_at, rows_length}
use Rattle.planning.specs.Plan.{empty_line}
use Rattle.assignment.specs.Passes.{rows_of}
use Rattle.units.specs.Units.{nums}
use lib.ListN.{length, get_or}
use native.Mathlib.Omega.{arith}
use mathlib.Core.Path.{◌≡◌}
use Rattle.planning.proofs.lines_of.Goals as goal

pub loop-k-init : goal.loop-k-init
unfolding empty_line
loop-k-init c = start c.args.table.now (nums c.args.weights) (rows_of c.args.rows)

pub loop-k-preserved : goal.loop-k-preserved
loop-k-preserved c =
    let l = c.loop-k in
    let xs = c.args.table.now in
    let lw : length c.args.weights ≡ tasks_limit = search rules in
    let lr : length c.args.rows ≡ tasks_limit = search rules in
    rw (← (line_at (get_or xs (2 * l.k) 0) (get_or xs (2 * l.k + 1) 0) c.args.weights c.args.rows l.k))
    (step xs (nums c.args.weights) (rows_of c.args.rows) l.lines l.k l.invariant (omega arith)
    (omega (arith, nums_length c.args.weights, c.requires)) (omega (arith, rows_length c.args.rows, c.requires)) (omega (arith, c.requires)))

pub returns : goal.returns
returns c =
    let l = c.loop-k in
    finish c.args.table.now (nums c.args.weights) (rows_of c.args.rows) l.lines l.k l.invariant (omega arith) (omega (arith, c.requires))
