-- `day_text::store_arrivals` meets its contract.
use Rattle.day_text.specs.Input.{lines_limit}
use Rattle.day_text.proofs.Kept.{Kept}
use Rattle.day_text.proofs.store_arrivals.Given as goal

abbrev pub invariant-loop-i : goal.invariant-loop-i
invariant-loop-i l = Kept lines_limit l.text l.from l.initial.arrivals l.arrivals l.i l.at
