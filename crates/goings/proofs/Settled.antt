-- Any two answers that a public function's contract allows are equal, and so is what it allows in a lent list.
use mathlib.Core.Path.{refl, sym, ◌∙◌}
use Rattle.lists.specs.Settled.{Settled, SettledLent}
use Rattle.goings.proofs.Going.is_run.Reads as GoingIsRun
use Rattle.goings.proofs.Going.then.Reads as GoingThen
use Rattle.goings.proofs.going_in.Reads as GoingIn
use Rattle.goings.proofs.store_going.Reads as StoreGoing
use Rattle.goings.proofs.ran_by.Reads as RanBy

pub is_run_lem : Settled GoingIsRun.Post
is_run_lem κs a x y e f p q = p ∙ sym q

pub going_then : Settled GoingThen.Post
going_then κs a x y e f p q = p ∙ sym q

pub going_in_lem : Settled GoingIn.Post
going_in_lem κs a x y e f p q = p ∙ sym q

pub store_going_lem : SettledLent (λ κs e. e.0.now) StoreGoing.Post
store_going_lem κs a x y e f p q = (refl, p ∙ sym q)

pub ran_by_lem : SettledLent (λ κs e. e.0.now) RanBy.Post
ran_by_lem κs a x y e f p q = (refl, p ∙ sym q)
