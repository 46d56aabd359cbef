-- `state_rules::sums_to` meets its contract.
use Rattle.std.proofs.Common.{rules, ◌≡◌, sum}
use Rattle.std.proofs.iter.runs.Made.{chains}
use Rattle.std.proofs.iter.runs.Sources.{sums}
use Rattle.lists.proofs.Lists.{total_is}
use Rattle.state_rules.proofs.sums_to.Goals as goal

pub sum-requires-clause-fits : goal.sum-requires-clause-fits
sum-requires-clause-fits c = search (rules, sums)

pub returns : goal.returns
returns c =
    let e : c.sum.result ≡ sum c.args.counts = search (rules, chains) in
    rw (e, total_is c.args.counts)
