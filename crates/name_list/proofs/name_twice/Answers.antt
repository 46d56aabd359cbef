-- `name_list::name_twice` meets its contract.
use mathlib.Core.Path.{sym}
use native.Mathlib.Omega.{arith}
use Rattle.name_list.proofs.Lines.{line_ahead, line_ends}
use Rattle.name_list.proofs.Compared.{line_whole, twice_first, twice_done, twice_here, twice_later}
use Rattle.name_list.proofs.name_twice.Goals as goal

pub loop-next-init : goal.loop-next-init
loop-next-init c = twice_first _

pub slice_bounds-name_again-count : goal.slice_bounds-name_again-count
slice_bounds-name_again-count c = omega (arith, line_ahead _ _ c.in-Some.ensures)

pub slice_bounds-name_again-start : goal.slice_bounds-name_again-start
slice_bounds-name_again-start c = omega (arith, line_ahead _ _ c.in-Some.ensures)

pub slice_bounds-name_again-end : goal.slice_bounds-name_again-end
slice_bounds-name_again-end c = line_ends _ _ c.in-Some.ensures

pub name_again-requires : goal.name_again-requires
name_again-requires c = line_whole _ _ c.in-Some.ensures

pub returns-then-name_again : goal.returns-then-name_again
returns-then-name_again c = twice_here _ _ c.loop-next.invariant c.in-Some.ensures (sym c.if-name_again.ensures)

pub loop-next-smaller : goal.loop-next-smaller
loop-next-smaller c = omega (arith, line_ahead _ _ c.in-Some.ensures, line_ends _ _ c.in-Some.ensures)

pub loop-next-preserved : goal.loop-next-preserved
loop-next-preserved c = twice_later _ _ c.loop-next.invariant c.in-Some.ensures (sym c.if-name_again.ensures)

pub returns : goal.returns
returns c = twice_done _ _ c.loop-next.invariant c.in_default.ensures
