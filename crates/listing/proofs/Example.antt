-- Document 01's listing: M = 4 and tasks 5 6, 4 6, 2 3, 2 3, 2 3, 1 2.
use mathlib.Core.Path.{◌≡◌, refl}
use mathlib.Core.List.{[], ◌∷◌, ◌++◌}
use Rattle.writing.specs.Ascii.{ascii}
use Rattle.writing.specs.Decimal.{decimal_f, decimal_of, signed_of}
use Rattle.planning.specs.declared.Plan.{Plan}
use Rattle.arith.specs.Divisor.{euclid, gcd, lcm}
use Rattle.arith.specs.Period.{common, period_of}
use Rattle.admission.specs.Refusals.{input_test}
use Rattle.admission.specs.Admission.{plan_refusal}
use Rattle.ordering.specs.Order.{order, in_order}
use Rattle.assignment.specs.Passes.{empty_rows, shares_of}
use Rattle.planning.specs.Plan.{empty_line, empty_plan, plan_for, refused_plan, taken_plan, plan_of}
use Rattle.lateness.specs.Lateness.{reach_on, reaches, fixed_late, late, lates_of}
use Rattle.listing.specs.Listing.{head_text, row_text, late_text, task_text, tasks_text, listing_text}

-- its plan
abbrev plan : Plan
plan = (plan_of 4 (5 ∷ 6 ∷ 4 ∷ 6 ∷ 2 ∷ 3 ∷ 2 ∷ 3 ∷ 2 ∷ 3 ∷ 1 ∷ 2 ∷ [])).plan

-- its listing
pub listing : listing_text plan ≡
    ascii "cores 4 common 6\n"
    ++ ascii "task 1 cost 5 period 6 weight 5 fixed 1:5 late 6\n"
    ++ ascii "task 2 cost 4 period 6 weight 4 fixed 2:4 late 9\n"
    ++ ascii "task 3 cost 2 period 3 weight 4 fixed 3:4 late 13\n"
    ++ ascii "task 4 cost 2 period 3 weight 4 fixed 4:4 late 8\n"
    ++ ascii "task 5 cost 2 period 3 weight 4 moves 1:1 2:2 3:1 late -1\n"
    ++ ascii "task 6 cost 1 period 2 weight 3 moves 3:1 4:2 late 5\n"
unfolding plan_of taken_plan refused_plan plan_for empty_plan empty_line plan_refusal input_test common period_of lcm gcd euclid shares_of empty_rows order in_order reach_on reaches fixed_late late lates_of decimal_f decimal_of signed_of head_text row_text late_text task_text tasks_text listing_text
listing = refl
