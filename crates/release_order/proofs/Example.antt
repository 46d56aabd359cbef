-- The box of E1 under calls: task 5 moves with shares 1, 2, 1, and its accepted runs go to cores 2, 1, 2, 3, refused calls between them or not.
use Prim.Native.Nat.{ℕ}
use mathlib.Core.Path.{◌≡◌, refl}
use mathlib.Core.Bool.{true}
use mathlib.Core.List.{List, [], ◌∷◌}
use lib.Dec.{eqb}
use lib.ListN.{length, get_or}
use borrow.Author.Tests.{eqb-true}
use Rattle.units.specs.Limits.{cores_limit, tasks_limit}
use Rattle.units.specs.Units.{ticks}
use Rattle.lists.specs.Below.{all_below}
use Rattle.lists.proofs.Below.{all_at}
use Rattle.arith.specs.Divisor.{euclid, gcd, lcm}
use Rattle.arith.specs.Period.{common, period_of}
use Rattle.admission.specs.Refusals.{input_test}
use Rattle.admission.specs.Admission.{plan_refusal}
use Rattle.ordering.specs.Order.{order, in_order}
use Rattle.assignment.specs.Passes.{empty_rows, shares_of}
use Rattle.planning.specs.declared.Plan.{Plan}
use Rattle.planning.specs.Plan.{no_line, empty_line, empty_plan, plan_for, refused_plan, taken_plan, plan_of}
use Rattle.soundness.specs.Plan.{plan_sound}
use Rattle.turn.specs.Turn.{best_from, core_of, counted, turn_of}
use Rattle.task_state.specs.State.{fresh_state}
use Rattle.task_state.specs.Runs.{with_run, without_run}
use Rattle.dispatch.specs.Record.{record_of, fresh_of}
use Rattle.dispatch.specs.Sound.{sound_of}
use Rattle.dispatch.specs.Refusals.{task_tests, look_refusal, release_refusal, finish_refusal}
use Rattle.dispatch.specs.Release.{take_release, refuse_release, release_of}
use Rattle.dispatch.specs.Finish.{take_finish, refuse_finish, finish_of}
use Rattle.dispatch.specs.Look.{look_of, best_of, choice_for, choice_of}
use Rattle.dispatch.specs.Shape.{Good}
use Rattle.planning.specs.Shape.{PlanShaped}
use Rattle.dispatch.specs.declared.call.Call.{Call}
use Rattle.dispatch.specs.declared.call.Call.TheVariants.{Release, Finish, Look}
use Rattle.dispatch.specs.Calls.{cores_of}
use Rattle.dispatch.proofs.Fresh.{fresh_good}

-- its plan
unfoldable pub plan : Plan
plan = (plan_of 4 (5 ∷ 6 ∷ 4 ∷ 6 ∷ 2 ∷ 3 ∷ 2 ∷ 3 ∷ 2 ∷ 3 ∷ 1 ∷ 2 ∷ [])).plan

-- the definitions that a plan and calls compute by
unfoldable pub defs : ℕ
unfolding plan plan_of taken_plan refused_plan plan_for empty_plan empty_line plan_refusal input_test common period_of lcm gcd euclid shares_of empty_rows order in_order plan_sound record_of fresh_state sound_of all_below task_tests look_refusal release_refusal finish_refusal release_of take_release refuse_release finish_of take_finish refuse_finish look_of best_of choice_for choice_of fresh_of with_run without_run turn_of core_of best_from counted
defs = 0

-- it is sound
sound : plan_sound plan ≡ true
unfolding defs
sound = refl

-- each line has sixteen shares
wide : all_below tasks_limit (λ i. eqb (length (get_or plan.lines i no_line).shares) cores_limit) ≡ true
unfolding defs
wide = refl

-- and has its lines
shaped : PlanShaped plan
unfolding defs
shaped = record {
  lines = refl;
  shares = λ i h.
      eqb-true (length (get_or plan.lines i no_line).shares) cores_limit
      (all_at tasks_limit i (λ j. eqb (length (get_or plan.lines j no_line).shares) cores_limit) h wide);
}

-- so its fresh record is good
pub good : Good (record_of plan)
good = fresh_good plan shaped sound

-- releases of task 5 at 0, 2 (early: held until 3), 1 (refused), 9 and 12, among other calls
abbrev calls : List Call
calls =
    Release 5 (ticks 0)
    ∷ Release 5 (ticks 2)
    ∷ Release 5 (ticks 1)
    ∷ Finish 5 (ticks 4)
    ∷ Release 6 (ticks 5)
    ∷ Look 2 (ticks 6)
    ∷ Release 5 (ticks 9)
    ∷ Look 2 (ticks 8)
    ∷ Release 5 (ticks 12)
    ∷ []

pub cores : cores_of 5 (record_of plan) calls ≡ 2 ∷ 1 ∷ 2 ∷ 3 ∷ []
unfolding defs
cores = refl
