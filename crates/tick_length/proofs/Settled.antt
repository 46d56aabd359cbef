-- Any two answers that a public function's contract allows are equal.
use mathlib.Core.Path.{sym, ◌∙◌}
use Rattle.lists.specs.Settled.{Settled}
use Rattle.tick_length.proofs.tick_in.Reads as TickIn
use Rattle.tick_length.proofs.cost_ticks.Reads as CostTicks
use Rattle.tick_length.proofs.period_ticks.Reads as PeriodTicks

pub tick_in_lem : Settled TickIn.Post
tick_in_lem κs a x y e f p q = p ∙ sym q

pub cost_ticks_lem : Settled CostTicks.Post
cost_ticks_lem κs a x y e f p q = p ∙ sym q

pub period_ticks_lem : Settled PeriodTicks.Post
period_ticks_lem κs a x y e f p q = p ∙ sym q
