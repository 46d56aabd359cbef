-- Any two answers that a public function's contract allows are equal.
use mathlib.Core.Path.{sym, ◌∙◌, ap₂}
use Rattle.lists.specs.Settled.{Settled}
use Rattle.instants.specs.declared.Instant.{Instant}
use Rattle.instants.proofs.scan.Reads as ScanReads
use Rattle.instants.proofs.least_left.Reads as LeastLeft

pub scanned : Settled ScanReads.Post
scanned κs a x y e f p q = ap₂ {C = Instant} (λ s n. record { seen = s; next = n }) (p.0 ∙ sym q.0) (p.1 ∙ sym q.1)

pub least_left_lem : Settled LeastLeft.Post
least_left_lem κs a x y e f p q = p ∙ sym q
