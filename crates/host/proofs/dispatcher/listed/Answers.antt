-- `host::dispatcher::listed` meets its contract.
use mathlib.Core.Path.{◌≡◌}
use native.Mathlib.Omega.{arith}
use lib.ListN.{length}
use Rattle.std.proofs.Common.{rules}
use Rattle.units.specs.Limits.{tasks_limit}
use Rattle.planning.specs.Shape.{PlanShaped}
use Rattle.listing.proofs.Wide.{wide}
use Rattle.listing.proofs.Fits.{listed_length}
use Rattle.host.proofs.dispatcher.listed.Goals.{Start}
use Rattle.host.proofs.dispatcher.listed.Goals as goal

-- sixty-four lines of sixteen shares
shaped : (s : Start) → PlanShaped s.args.held.plan
shaped s =
    let pl = s.args.held.plan in
    let l : length pl.lines ≡ tasks_limit = search rules in
    record { lines = l; shares = λ i h. wide pl.lines _ s.well_formed.0.1.1.0.1.1.1.1.1.0.1.1 i (omega (arith, l)) }

pub returns-clause-short : goal.returns-clause-short
returns-clause-short c =
    rw c.list.ensures.value (listed_length c.args.held (length c.args.buf.now) (shaped (goal.at.returns-clause-short c).Start))
