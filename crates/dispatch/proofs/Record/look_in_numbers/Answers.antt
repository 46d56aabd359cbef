-- `dispatch::Record::look_in_numbers` meets its contract.
use Prim.Native.Nat.{ℕ, ◌≤◌}
use mathlib.Core.Bool.{Bool}
use mathlib.Core.Path.{◌≡◌, refl, sym, ◌∙◌}
use native.Mathlib.Omega.{arith}
use Rattle.units.specs.Limits.{tasks_limit}
use Rattle.units.specs.Refusals.{core_no}
use Rattle.units.proofs.Refusals.{refuses}
use Rattle.call_tests.specs.Tests.{shared_tests}
use Rattle.core_choice.specs.Told.{told_of}
use Rattle.core_choice.specs.declared.Choice.TheVariants.{Idle}
use Rattle.dispatch.specs.declared.Record.{Record}
use Rattle.dispatch.specs.Look.{best_of, choice_of, at_time}
use Rattle.dispatch.specs.Sound.{sound_of}
use Rattle.dispatch.specs.Refusals.{look_refusal}
use Rattle.dispatch.proofs.Looking.{best_more, best_task, told_idle, told_by}
use Rattle.dispatch.proofs.Answers.{look_or_refused, look_or_taken}
use Rattle.dispatch.proofs.Called.{CoreCall, core_call}
use Rattle.dispatch.proofs.Record.look_in_numbers.Goals.{After-loop-i, In-Ok, then-best-gt0, else-best-gt0}
use Rattle.dispatch.proofs.Record.look_in_numbers.Goals as goal

-- the look's number
own : (r : Record) (k t : ℕ) {sound : Bool} {n : ℕ} → sound ≡ sound_of r → n ≡ shared_tests sound core_no r.plan.cores k r.clock.0 t → n ≡ look_refusal r k t
unfolding look_refusal
own r k t e q = rw e at q

-- what is known if none applies
known : (c : In-Ok) → let s = c.args in CoreCall s.self s.core s.time.0
known c = let s = c.args in core_call s.time.0 (sym (own s.self s.core s.time.0 c.sound-sound.ensures c.in-Ok.ensures))

-- the best of all tasks
found : (c : After-loop-i) → CoreCall c.args.self c.args.core c.args.time.0
    → let s = c.args in c.loop-i.best ≡ best_of (at_time s.self s.time.0) s.core tasks_limit
found c k =
    let e : c.loop-i.i ≡ c.args.self.plan.count = omega arith in
    (rw e at c.loop-i.invariant) ∙ sym k.all

-- is one of them
found_below : (c : After-loop-i) → CoreCall c.args.self c.args.core c.args.time.0 → c.loop-i.best.task ≤ tasks_limit
found_below c k = let s = c.args in best_task (at_time s.self s.time.0) s.core (found c k)

pub loop-i-init : goal.loop-i-init
unfolding best_of
loop-i-init c = refl

pub offset_bounds-lines-i : goal.offset_bounds-lines-i
offset_bounds-lines-i c = omega (arith, (known (goal.at.offset_bounds-lines-i c).In-Ok).tasks)

pub bounds-lines-i : goal.bounds-lines-i
bounds-lines-i c = omega (arith, (known (goal.at.bounds-lines-i c).In-Ok).tasks)

pub offset_bounds-states-i : goal.offset_bounds-states-i
offset_bounds-states-i c = omega (arith, (known (goal.at.offset_bounds-states-i c).In-Ok).tasks)

pub bounds-states-i : goal.bounds-states-i
bounds-states-i c = omega (arith, (known (goal.at.bounds-states-i c).In-Ok).tasks)

pub better_task-best-requires : goal.better_task-best-requires
better_task-best-requires c =
    let k = known (goal.at.better_task-best-requires c).In-Ok in
    (k.from, k.few, k.due c.loop-i.i (omega arith), k.time)

pub loop-i-preserved : goal.loop-i-preserved
loop-i-preserved c =
    let s = c.args in
    best_more (at_time s.self s.time.0) s.core c.loop-i.i c.loop-i.invariant c.better_task-best.ensures

pub offset_bounds-states-best : goal.offset_bounds-states-best
offset_bounds-states-best c = let p = goal.at.offset_bounds-states-best c in omega (arith, found_below p.After-loop-i (known p.In-Ok))

pub bounds-states-best : goal.bounds-states-best
bounds-states-best c = let p = goal.at.bounds-states-best c in omega (arith, found_below p.After-loop-i (known p.In-Ok), c.if-best-gt0.true)

pub returns-after-best-gt0 : goal.returns-after-best-gt0
returns-after-best-gt0 c =
    let s = c.args in
    let p = goal.at.returns-after-best-gt0 c in
    let r = at_time s.self s.time.0 in
    let e = found p.After-loop-i (known p.In-Ok) in
    let chosen : c.if-best-gt0.chosen ≡ told_of (choice_of r s.core) =
    elim c.if-best-gt0.branch [
      | then-best-gt0 w ↦ w.chosen-is ∙ told_by r s.core e w.told-chosen.ensures
      | else-best-gt0 w ↦ w.chosen-is ∙ told_idle r s.core e (omega (arith, w.if-best-gt0.false))
    ] in
    sym (look_or_taken s.self s.core s.time.0 (told_of Idle) (own s.self s.core s.time.0 c.sound-sound.ensures c.in-Ok.ensures) refl chosen)

pub returns-in-Err : goal.returns-in-Err
returns-in-Err c =
    let s = c.args in
    sym (look_or_refused s.self s.core s.time.0 (told_of Idle) (own s.self s.core s.time.0 c.sound-sound.ensures c.in-Err.ensures)
    (λ z. refuses c.in-Err.reason z))
