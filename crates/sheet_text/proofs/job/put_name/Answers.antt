-- `sheet_text::job::put_name` meets its contract.
use mathlib.Core.Path.{refl}
use native.Mathlib.Omega.{arith}
use Rattle.writing.proofs.Wrote.{none, recast}
use Rattle.names.proofs.Parts.{parted}
use Rattle.sheet_text.proofs.Naming.{line_none, line_stored}
use Rattle.sheet_text.proofs.job.put_name.Goals as goal

pub returns-in_default : goal.returns-in_default
returns-in_default c = recast (line_none _ _ c.in_default.ensures) (none _ _)

pub slice_bounds-put_text-count : goal.slice_bounds-put_text-count
slice_bounds-put_text-count c = (parted _ _ _ (omega arith) c.in-Some.ensures).from

pub slice_bounds-put_text-start : goal.slice_bounds-put_text-start
slice_bounds-put_text-start c = (parted _ _ _ (omega arith) c.in-Some.ensures).from

pub slice_bounds-put_text-end : goal.slice_bounds-put_text-end
slice_bounds-put_text-end c = (parted _ _ _ (omega arith) c.in-Some.ensures).to

pub put_text-stored-requires : goal.put_text-stored-requires
put_text-stored-requires c = omega (arith, (parted _ _ _ (omega arith) c.in-Some.ensures).few)

pub put_byte-requires : goal.put_byte-requires
put_byte-requires c = omega (arith, (parted _ _ _ (omega arith) c.in-Some.ensures).few, c.put_text-stored.ensures.end)

pub returns : goal.returns
returns c = line_stored _ _ _ c.in-Some.ensures c.put_text-stored.ensures c.put_byte.ensures refl

pub overflow_sub-next : goal.overflow_sub-next
overflow_sub-next c = omega (arith, (parted _ _ _ (omega arith) c.in-Some.ensures).far)
