-- Any two answers that the public function's contract allows are equal, and each number of the two lent lists.
use mathlib.Core.Path.{sym, ap₂, ◌∙◌}
use mathlib.Core.List.{List}
use Prim.Native.Nat.{ℕ}
use Rattle.lists.specs.Settled.{SettledLent}
use Rattle.day_text.proofs.read_day.Reads as ReadDay

pub read_day_lem : SettledLent {B = List ℕ × List ℕ} (λ κs e. (e.1.0.now, e.1.1.0.now)) ReadDay.Post
read_day_lem κs a x y e f p q =
    (p.0 ∙ sym q.0, ap₂ (λ (xs ys : List ℕ). (xs, ys)) (p.1.0 ∙ sym q.1.0) (p.1.1 ∙ sym q.1.1))
