-- `listing::writers::put_shares` meets its contract: the shares of the first p cores are written.
use borrow.Author.Rules.{rules}
use Rattle.writing.proofs.Wrote.{then, recast}
use Rattle.listing.proofs.Texts.{cores_more}
use Rattle.listing.proofs.writers.put_shares.Goals as goal

pub loop-p-preserved : goal.loop-p-preserved
loop-p-preserved c = (recast (cores_more c.args.shares c.loop-p.p) (then c.loop-p.invariant.0 c.put_share-next.ensures.wrote), search rules)
