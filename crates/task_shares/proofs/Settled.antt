-- Any two answers that a public function's contract allows are equal.
use mathlib.Core.Path.{sym, ◌∙◌}
use Rattle.lists.specs.Settled.{Settled}
use Rattle.task_shares.proofs.rows.sum_of.Reads as SumOf
use Rattle.task_shares.proofs.rows.parts_of.Reads as PartsOf
use Rattle.task_shares.proofs.rows.first_core.Reads as FirstCore
use Rattle.task_shares.proofs.standing.moves_by.Reads as MovesBy
use Rattle.task_shares.proofs.standing.stands.Reads as Stands

pub sum_of : Settled SumOf.Post
sum_of κs a x y e f p q = p ∙ sym q

pub parts_of_lem : Settled PartsOf.Post
parts_of_lem κs a x y e f p q = p ∙ sym q

pub first_core_lem : Settled FirstCore.Post
first_core_lem κs a x y e f p q = p ∙ sym q

pub moves_by_lem : Settled MovesBy.Post
moves_by_lem κs a x y e f p q = p ∙ sym q

pub stands : Settled Stands.Post
stands κs a x y e f p q = p ∙ sym q
