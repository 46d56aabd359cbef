-- Any two answers that a public function's contract allows are equal, and each byte of the buffer.
use mathlib.Core.Path.{sym, ◌∙◌}
use Rattle.lists.specs.Settled.{Settled, SettledLent}
use Rattle.host.proofs.yagomila_admit.Reads as YagomilaAdmit
use Rattle.host.proofs.yagomila_listing.Reads as YagomilaListing

pub yagomila_admit_lem : Settled YagomilaAdmit.Post
yagomila_admit_lem κs a x y e f p q = p ∙ sym q

pub yagomila_listing_lem : SettledLent (λ κs e. e.1.1.0.now) YagomilaListing.Post
yagomila_listing_lem κs a x y e f p q = (p.0 ∙ sym q.0, p.1 ∙ sym q.1)
