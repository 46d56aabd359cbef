-- `calls_text::calls::calls_place` meets its contract.
use Rattle.calls_text.specs.Input.{calls_place}
use Rattle.calls_text.proofs.calls.calls_place.Goals as goal

pub returns : goal.returns
unfolding calls_place
returns c = record { value = c.line_place.ensures.value; upper_bound = c.line_place.ensures.upper_bound }
