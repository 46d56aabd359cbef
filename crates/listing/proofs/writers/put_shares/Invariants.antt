-- `listing::writers::put_shares` meets its contract: the shares of the first p cores are written.
use Prim.Native.Nat.{◌+◌, ◌*◌, ◌≤◌}
use lib.ListN.{take}
use Rattle.units.specs.Units.{nums}
use Rattle.writing.specs.Wrote.{Wrote}
use Rattle.listing.specs.Listing.{shares_text}
use Rattle.listing.proofs.writers.put_shares.Given as goal

abbrev pub invariant-loop-p : goal.invariant-loop-p
invariant-loop-p l = Wrote l.initial.buf l.at (shares_text 1 (nums (take l.p l.share-items))) l.buf l.next × (l.next ≤ l.at + 50 * l.p)
