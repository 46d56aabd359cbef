-- `sheet_text::job::first_unreadable` meets its contract.
use Rattle.std.specs.Prelude.{◌≡◌, Some}
use Rattle.std.specs.Option.{unwrap_or}
use native.Mathlib.Omega.{arith}
use borrow.Author.Rules.{rules}
use Rattle.scanning.specs.Lines.{pair_end}
use Rattle.scanning.proofs.Fields.{pair_place}
use Rattle.sheet_text.specs.Job.{job_at, job_end}
use Rattle.sheet_text.proofs.Jobs.{job_ahead}
use Rattle.sheet_text.proofs.job.first_unreadable.Goals as goal

pub first_unreadable-requires-clause-ahead : goal.first_unreadable-requires-clause-ahead
unfolding pair_place
first_unreadable-requires-clause-ahead c =
    λ at after p. (let e : Some after ≡ pair_place (job_at c.args.sheet.now at) = search rules in job_ahead _ _ _ e)

pub returns : goal.returns
unfolding pair_end
returns c =
    let s = c.args.sheet.now in
    (c.first_unreadable.ensures (job_end s) (λ at r p. (let e : unwrap_or r 0 ≡ job_end s at = search rules in e))).1 (omega arith)
