-- `sheet_text::job::read_job` meets its contract.
use mathlib.Core.Path.{◌∙◌}
use Rattle.sheet_text.proofs.Jobs.{job_none, job_is}
use Rattle.sheet_text.proofs.job.read_job.Goals as goal

pub returns-in_err-next : goal.returns-in_err-next
returns-in_err-next c = c.from_residual.ensures ∙ job_none _ _ c.in_err-next.ensures

pub returns : goal.returns
returns c = c.read_pair_by.ensures ∙ job_is _ _ c.in_ok-next.ensures
