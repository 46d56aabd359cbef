-- `sheet_writing::put_sheet` meets its contract.
use native.Mathlib.Omega.{arith}
use Rattle.writing.specs.Ascii.{newline}
use Rattle.names.proofs.Parts.{Parted, parted}
use Rattle.sheet_writing.proofs.Sheet.{begun, whole_sheet, onward, ended, stopped}
use Rattle.sheet_writing.proofs.put_sheet.Goals.{In-Some}
use Rattle.sheet_writing.proofs.put_sheet.Goals as goal

-- the name that is read lies in them
named : (c : In-Some) → Parted c.args.names.now c.loop-k.at c.in-Some.next
named c = parted _ newline _ (omega arith) c.in-Some.ensures

pub loop-k-init : goal.loop-k-init
loop-k-init c = begun _ _ _ _ _

pub returns-in_default : goal.returns-in_default
returns-in_default c = whole_sheet _ _ _ c.put_number-first.ensures.wrote c.put_byte-end.ensures (stopped c.loop-k.invariant c.in_default.ensures)

pub overflow_sub-next : goal.overflow_sub-next
overflow_sub-next c = omega (arith, (named (goal.at.overflow_sub-next c).In-Some).far)

pub slice_bounds-put_job-count : goal.slice_bounds-put_job-count
slice_bounds-put_job-count c = (named (goal.at.slice_bounds-put_job-count c).In-Some).from

pub slice_bounds-put_job-start : goal.slice_bounds-put_job-start
slice_bounds-put_job-start c = (named (goal.at.slice_bounds-put_job-start c).In-Some).from

pub slice_bounds-put_job-end : goal.slice_bounds-put_job-end
slice_bounds-put_job-end c = (named (goal.at.slice_bounds-put_job-end c).In-Some).to

-- few bytes are written before a task
pub put_job-end-requires : goal.put_job-end-requires
put_job-end-requires c = (
  omega (arith, c.loop-k.invariant.short, c.put_byte-end.ensures.end, c.put_number-first.ensures.upper_bound, c.requires),
  (named (goal.at.put_job-end-requires c).In-Some).few,
)

pub loop-k-preserved : goal.loop-k-preserved
loop-k-preserved c = onward c.loop-k.invariant c.loop-k-test.true c.in-Some.ensures c.put_job-end.ensures.wrote c.put_job-end.ensures.upper_bound

pub returns : goal.returns
returns c = whole_sheet _ _ _ c.put_number-first.ensures.wrote c.put_byte-end.ensures (ended c.loop-k.invariant c.loop-k-test.false)
