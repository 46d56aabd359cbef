-- `sheet_text::job::put_names` meets its contract.
use mathlib.Core.Path.{sym}
use native.Mathlib.Omega.{arith}
use Rattle.writing.proofs.Wrote.{kept}
use Rattle.sheet_text.proofs.Jobs.{job_kept}
use Rattle.sheet_text.proofs.Naming.{begun, onward, all}
use Rattle.sheet_text.proofs.job.put_names.Goals as goal

pub loop-next-init : goal.loop-next-init
loop-next-init c = begun _ _ _

pub put_name-end-requires : goal.put_name-end-requires
put_name-end-requires c = omega (arith, c.loop-next.invariant.short, (job_kept _ _ _ _ _ (sym c.in-Some.ensures)).inside)

pub loop-next-smaller : goal.loop-next-smaller
loop-next-smaller c = let k = job_kept _ _ _ _ _ (sym c.in-Some.ensures) in omega (arith, k.further, k.inside)

pub loop-next-preserved : goal.loop-next-preserved
loop-next-preserved c = onward c.loop-next.invariant (sym c.in-Some.ensures) c.put_name-end.ensures

pub shape_of-buf : goal.shape_of-buf
shape_of-buf c = kept c.loop-next.invariant.wrote

pub returns : goal.returns
returns c = all c.loop-next.invariant (sym c.in_default.ensures)
