-- Any two answers that a public function's contract allows are equal.
use mathlib.Core.Path.{sym, ◌∙◌}
use Rattle.lists.specs.Settled.{Settled}
use Rattle.calls_text.proofs.line.read_call.Reads as ReadCall
use Rattle.calls_text.proofs.calls.calls_place.Reads as CallsPlace
use Rattle.calls_text.proofs.calls.first_bad.Reads as FirstBad

pub read_call_lem : Settled ReadCall.Post
read_call_lem κs a x y e f p q = p ∙ sym q

pub calls_place_lem : Settled CallsPlace.Post
calls_place_lem κs a x y e f p q = p.0 ∙ sym q.0

pub first_bad_lem : Settled FirstBad.Post
first_bad_lem κs a x y e f p q = p ∙ sym q
