-- E1 to E12, by computation from the definitions, and a slip that they do not show.
use mathlib.Core.Path.{◌≡◌, refl}
use mathlib.Core.Bool.{true}
use Rattle.arith.specs.Divisor.{euclid, gcd, lcm}
use Rattle.arith.specs.Period.{common, period_of}
use Rattle.admission.specs.Refusals.{input_test}
use Rattle.admission.specs.Admission.{plan_refusal}
use Rattle.ordering.specs.Order.{order, in_order}
use Rattle.assignment.specs.Passes.{empty_rows, shares_of}
use Rattle.planning.specs.Plan.{empty_line, empty_plan, plan_for, refused_plan, taken_plan, plan_of}
use Rattle.lateness.specs.Lateness.{reach_on, reaches, fixed_late, late, lates_of}
use Rattle.turn.specs.Turn.{best_from, core_of, counted, turn_of, turns}
use Rattle.demands.specs.Examples.{holds, all_hold, examples, not_in_blocks}

pub examples_hold : all_hold examples ≡ true
unfolding holds plan_of plan_for refused_plan taken_plan empty_plan empty_line plan_refusal input_test period_of common lcm gcd euclid order in_order empty_rows shares_of reach_on reaches fixed_late late lates_of best_from core_of counted turn_of turns
examples_hold = refl

pub not_in_blocks_lem : holds not_in_blocks ≡ true
unfolding holds best_from core_of counted turn_of turns
not_in_blocks_lem = refl
