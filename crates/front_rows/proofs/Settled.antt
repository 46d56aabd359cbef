-- Any two answers that a public function's contract allows are equal, and what it allows in the lent list is settled.
use mathlib.Core.Path.{refl, sym, ◌∙◌}
use Rattle.lists.specs.Settled.{Settled, SettledLent}
use Rattle.front_rows.proofs.front_in.Reads as FrontIn
use Rattle.front_rows.proofs.store_front.Reads as StoreFront

pub front_in_lem : Settled FrontIn.Post
front_in_lem κs a x y e f p q = p ∙ sym q

pub store_front_lem : SettledLent (λ κs e. e.0.now) StoreFront.Post
store_front_lem κs a x y e f p q = (refl, p ∙ sym q)
