-- Any two answers that a public function's contract allows are equal.
use mathlib.Core.Path.{sym, ◌∙◌}
use Rattle.lists.specs.Settled.{Settled}
use Rattle.state_rules.proofs.state_ok.Reads as StateOk

pub state_ok_lem : Settled StateOk.Post
state_ok_lem κs a x y e f p q = p ∙ sym q
