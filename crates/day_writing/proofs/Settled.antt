-- Any two answers that a public function's contract allows are equal, and each byte of the buffer.
use Prim.Native.Nat.{ℕ}
use mathlib.Core.Path.{sym, ap₂, ◌∙◌}
use mathlib.Core.List.{List}
use Rattle.lists.specs.Settled.{SettledLent}
use Rattle.day_window.proofs.Windows.{settled}
use Rattle.day_writing.proofs.put_arrival_numbered.Reads as PutArrivalNumbered
use Rattle.day_writing.proofs.put_arrival.Reads as PutArrival
use Rattle.day_writing.proofs.put_spans.Reads as PutSpans

pub put_arrival_numbered_lem : SettledLent (λ κs e. e.0.now) PutArrivalNumbered.Post
put_arrival_numbered_lem κs a x y e f p q = settled p.0 q.0

pub put_arrival_lem : SettledLent (λ κs e. e.0.now) PutArrival.Post
put_arrival_lem κs a x y e f p q = settled p.0 q.0

-- and each number of who has the cores
pub put_spans_lem : SettledLent {B = List ℕ × List ℕ} (λ κs e. (e.0.now, e.1.1.1.0.now)) PutSpans.Post
put_spans_lem κs a x y e f p q =
    let s = settled p.0 q.0 in
    (s.0, ap₂ (λ (xs ys : List ℕ). (xs, ys)) s.1 (p.1.1 ∙ sym q.1.1))
