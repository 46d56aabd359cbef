-- `assignment::shares_of` meets its contract.
use mathlib.Core.Path.{◌∙◌}
use Rattle.units.specs.Units.{nums}
use Rattle.units.proofs.Units.{nums_long}
use Rattle.assignment.specs.Passes.{empty_rows}
use Rattle.assignment.proofs.Ordered.{among, shares_are}
use borrow.Author.Rules.{rules}
use Rattle.assignment.proofs.shares_of.Goals as goal

pub pass_one-requires : goal.pass_one-requires
pass_one-requires c =
    rw c.order_of-order.ensures (among (nums c.args.weights) (search (rules, nums_long)))

pub returns : goal.returns
unfolding empty_rows
returns c =
    c.pass_one.ensures
    ∙ rw c.order_of-order.ensures
    (shares_are (nums c.args.weights) (search (rules, nums_long)) (nums c.args.room.shares) (search (rules, nums_long)))
