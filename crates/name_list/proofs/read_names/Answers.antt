-- `name_list::read_names` meets its contract.
use native.Mathlib.Omega.{arith}
use Rattle.name_list.proofs.Lines.{line_ahead, line_ends}
use Rattle.name_list.proofs.Tallied.{ahead, none_yet, one_more, said_count, said_unreadable}
use Rattle.name_list.proofs.read_names.Goals as goal

pub loop-next-init : goal.loop-next-init
loop-next-init c = none_yet _

pub overflow_add-count : goal.overflow_add-count
overflow_add-count c = omega (arith, ahead _ _ _ c.loop-next.invariant, line_ahead _ _ c.in-Some.ensures)

pub loop-next-smaller : goal.loop-next-smaller
loop-next-smaller c = omega (arith, line_ahead _ _ c.in-Some.ensures, line_ends _ _ c.in-Some.ensures)

pub loop-next-preserved : goal.loop-next-preserved
loop-next-preserved c = one_more _ _ _ c.loop-next.invariant c.in-Some.ensures

pub returns-then-at-names : goal.returns-then-at-names
returns-then-at-names c = said_unreadable _ _ _ c.loop-next.invariant c.in_default.ensures c.if-at-names.true

pub returns-else-at-names : goal.returns-else-at-names
returns-else-at-names c = said_count _ _ _ c.loop-next.invariant c.in_default.ensures c.if-at-names.false
