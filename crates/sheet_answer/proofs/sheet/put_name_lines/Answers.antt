-- `sheet_answer::sheet::put_name_lines` meets its contract.
use native.Mathlib.Omega.{arith}
use Rattle.writing.specs.Ascii.{newline}
use Rattle.writing.proofs.Wrote.{kept}
use Rattle.names.proofs.Parts.{Parted, parted}
use Rattle.sheet_answer.proofs.NameLines.{begun, onward, all}
use Rattle.sheet_answer.proofs.sheet.put_name_lines.Goals.{In-Some}
use Rattle.sheet_answer.proofs.sheet.put_name_lines.Goals as goal

-- the name that is read lies in them
named : (c : In-Some) → Parted c.args.names.now c.loop-next.place c.in-Some.next
named c = parted _ newline _ (omega arith) c.in-Some.ensures

pub loop-next-init : goal.loop-next-init
loop-next-init c = begun _ _ _

pub overflow_sub-next : goal.overflow_sub-next
overflow_sub-next c = omega (arith, (named (goal.at.overflow_sub-next c).In-Some).far)

pub slice_bounds-put_named-count : goal.slice_bounds-put_named-count
slice_bounds-put_named-count c = (named (goal.at.slice_bounds-put_named-count c).In-Some).from

pub slice_bounds-put_named-start : goal.slice_bounds-put_named-start
slice_bounds-put_named-start c = (named (goal.at.slice_bounds-put_named-start c).In-Some).from

pub slice_bounds-put_named-end : goal.slice_bounds-put_named-end
slice_bounds-put_named-end c = (named (goal.at.slice_bounds-put_named-end c).In-Some).to

pub put_named-end-requires : goal.put_named-end-requires
put_named-end-requires c =
    let l = c.loop-next.invariant in
    (omega (arith, l.short, l.within), (named (goal.at.put_named-end-requires c).In-Some).few)

pub overflow_add-task : goal.overflow_add-task
overflow_add-task c = omega (arith, c.loop-next.invariant.counted, c.loop-next.invariant.within)

pub loop-next-smaller : goal.loop-next-smaller
loop-next-smaller c = let n = named (goal.at.loop-next-smaller c).In-Some in omega (arith, n.far, n.ends)

pub loop-next-preserved : goal.loop-next-preserved
loop-next-preserved c = onward c.loop-next.invariant c.in-Some.ensures c.put_named-end.ensures.wrote c.put_named-end.ensures.upper_bound

pub shape_of-buf : goal.shape_of-buf
shape_of-buf c = kept c.loop-next.invariant.wrote

pub returns : goal.returns
returns c =
    record {
      wrote = all c.loop-next.invariant c.in_default.ensures;
      upper_bound = omega (arith, c.loop-next.invariant.short, c.loop-next.invariant.within);
    }
