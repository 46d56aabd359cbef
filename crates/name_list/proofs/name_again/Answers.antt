-- `name_list::name_again` meets its contract.
use native.Mathlib.Omega.{arith}
use Rattle.name_list.proofs.Lines.{line_ahead, line_ends}
use Rattle.name_list.proofs.Compared.{again_first, again_done, again_here, again_later}
use Rattle.name_list.proofs.name_again.Goals as goal

pub loop-next-init : goal.loop-next-init
loop-next-init c = again_first _ _ _

pub loop-next-smaller : goal.loop-next-smaller
loop-next-smaller c = omega (arith, line_ahead _ _ c.in-Some.ensures, line_ends _ _ c.in-Some.ensures)

pub loop-next-preserved : goal.loop-next-preserved
loop-next-preserved c = again_later _ _ _ _ c.loop-next.invariant c.in-Some.ensures c.requires c.read_word.ensures c.if-is_some.ensures

pub returns-then-is_some : goal.returns-then-is_some
returns-then-is_some c = again_here _ _ _ _ c.loop-next.invariant c.in-Some.ensures c.requires c.read_word.ensures c.if-is_some.ensures

pub returns : goal.returns
returns c = again_done _ _ _ _ c.loop-next.invariant c.in_default.ensures
