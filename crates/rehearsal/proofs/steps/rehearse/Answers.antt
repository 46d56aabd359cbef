-- `rehearsal::steps::rehearse` meets its contract.
use Prim.Native.Nat.{◌+◌, ◌-◌, ◌*◌, ◌≤◌, ◌<◌}
use mathlib.Core.Path.{◌≡◌, sym, ap, ◌∙◌}
use native.Mathlib.Omega.{arith}
use lib.Dec.{ltb}
use lib.ListN.{length, get_or}
use borrow.Author.Tests.{ltb-false}
use Rattle.lists.proofs.Tests.{or_false_left, or_false_right}
use Rattle.units.specs.Limits.{tasks_limit}
use Rattle.units.specs.declared.ticks.Ticks.{Ticks}
use Rattle.soundness.proofs.Facts.{cores_few, tasks_few}
use Rattle.arrivals.specs.Arrivals.{arrivals_in, arrival_task}
use Rattle.goings.specs.declared.Going.{Going}
use Rattle.goings.specs.Rows.{going_at}
use Rattle.front_rows.specs.Rows.{front_at}
use Rattle.rehearsal.specs.Parts.{coming_at, done_by}
use Rattle.rehearsal.proofs.Rehearsing as R
use Rattle.rehearsal.proofs.Rehearsing.{Rehearsing}
use Rattle.rehearsal.proofs.steps.rehearse.Goals.{After-done_by, After-loop-desk, After-saturating_sub-i, Else-coming-time, Then-coming-time}
use Rattle.rehearsal.proofs.steps.rehearse.Goals as goal

-- its task's place
place_is : (c : After-saturating_sub-i) → c.saturating_sub-i.result ≡ (going_at c.loop-desk.goings c.loop-desk.desk.core).task - 1
place_is c = c.saturating_sub-i.ensures ∙ ap (λ (g : Going). g.task - 1) c.going_in-run.ensures

place_low : (c : After-saturating_sub-i) → c.saturating_sub-i.result < tasks_limit
place_low c =
    omega (arith, place_is c, R.place_small c.requires.0 c.loop-desk.invariant c.if-desk.true)

-- whether it is done
tested : (c : After-done_by) → let run = going_at c.loop-desk.goings c.loop-desk.desk.core in
    c.done_by.result ≡ done_by run.task (front_at c.loop-desk.fronts (run.task - 1)).length (get_or c.loop-desk.had (run.task - 1) 0)
tested c =
    let g = c.going_in-run.ensures in
    let i = c.saturating_sub-i.ensures ∙ ap (λ (g : Going). g.task - 1) g in
    rw (c.front_in-front.ensures, i, g) at c.done_by.ensures

-- it comes now
now_is : (c : Then-coming-time) → coming_at c.args.arrivals.now c.loop-desk.desk.next c.args.stop.0 ≡ c.loop-desk.desk.time
now_is c = sym (ap (λ (x : Ticks). x.0) c.coming_at-coming.ensures) ∙ c.if-coming-time.true

here : (c : Then-coming-time) → c.loop-desk.desk.next < arrivals_in c.args.arrivals.now
here c = R.coming_here c.requires.0 c.loop-desk.invariant c.if-desk.false c.loop-desk-test.true
    (now_is c)

triple : (c : Then-coming-time) → 3 * c.loop-desk.desk.next + 2 < length c.args.arrivals.now
triple c = R.triple_in (length c.args.arrivals.now) c.loop-desk.desk.next (here c)

task_from : (c : Then-coming-time) → 1 ≤ arrival_task c.args.arrivals.now c.loop-desk.desk.next
task_from c = R.from_one c.requires.0 c.loop-desk.invariant c.if-desk.false c.loop-desk-test.true (now_is c)

task_low : (c : Then-coming-time) → arrival_task c.args.arrivals.now c.loop-desk.desk.next - 1 < tasks_limit
task_low c = R.seat_small c.requires.0 c.loop-desk.invariant c.if-desk.false c.loop-desk-test.true (now_is c)

-- nothing comes now
now_not : (c : Else-coming-time) → coming_at c.args.arrivals.now c.loop-desk.desk.next c.args.stop.0 ≡ c.loop-desk.desk.time → ⊥
now_not c z = c.if-coming-time.false (ap (λ (x : Ticks). x.0) c.coming_at-coming.ensures ∙ z)

-- the stop is reached
ended : (c : After-loop-desk) → let d = c.loop-desk.desk in (d.cores ≤ d.core) × (c.args.stop.0 ≤ d.time)
ended c =
    let d = c.loop-desk.desk in
    let stop = c.args.stop.0 in (
      ltb-false d.core d.cores (or_false_left (ltb d.core d.cores) (ltb d.time stop) c.loop-desk-test.false),
      ltb-false d.time stop (or_false_right (ltb d.core d.cores) (ltb d.time stop) c.loop-desk-test.false),
    )

pub fresh_fronts-requires : goal.fresh_fronts-requires
fresh_fronts-requires c = tasks_few c.args.plan c.requires.0.sound

pub loop-desk-init : goal.loop-desk-init
loop-desk-init c =
    rw (c.fresh_desk-desk.ensures, c.fresh_fronts.ensures) (R.begun _ _ _ _ _ c.requires.0 c.requires.1)

pub going_in-run-requires : goal.going_in-run-requires
going_in-run-requires c =
    (R.core_in_lem c.requires.0 c.loop-desk.invariant c.if-desk.true, c.loop-desk.invariant.wide)

pub front_in-front-requires : goal.front_in-front-requires
front_in-front-requires c = (place_low (goal.at.front_in-front-requires c).After-saturating_sub-i, c.loop-desk.invariant.fronts)

pub offset_bounds-had-i : goal.offset_bounds-had-i
offset_bounds-had-i c = omega (arith, place_low (goal.at.offset_bounds-had-i c).After-saturating_sub-i)

pub bounds-had-i : goal.bounds-had-i
bounds-had-i c = omega (arith, place_low (goal.at.bounds-had-i c).After-saturating_sub-i, c.loop-desk.invariant.long)

pub offset_bounds-desk-i : goal.offset_bounds-desk-i
offset_bounds-desk-i c = omega (arith, place_low (goal.at.offset_bounds-desk-i c).After-saturating_sub-i)

pub bounds-desk-i : goal.bounds-desk-i
bounds-desk-i c = omega (arith, place_low (goal.at.bounds-desk-i c).After-saturating_sub-i)

pub offset_bounds-plan-i : goal.offset_bounds-plan-i
offset_bounds-plan-i c = omega (arith, place_low (goal.at.offset_bounds-plan-i c).After-saturating_sub-i)

pub bounds-plan-i : goal.bounds-plan-i
bounds-plan-i c = omega (arith, place_low (goal.at.bounds-plan-i c).After-saturating_sub-i)

pub end-ended-requires : goal.end-ended-requires
end-ended-requires c =
    let z = sym (tested (goal.at.end-ended-requires c).After-done_by) ∙ c.if-done_by.true in
    rw (place_is (goal.at.end-ended-requires c).After-saturating_sub-i) (R.endable c.requires.0 c.loop-desk.invariant c.if-desk.true z)

pub offset_bounds-desk-i-then-done_by : goal.offset_bounds-desk-i-then-done_by
offset_bounds-desk-i-then-done_by c =
    omega (arith, place_low (goal.at.offset_bounds-desk-i-then-done_by c).After-saturating_sub-i)

pub bounds-desk-i-then-done_by : goal.bounds-desk-i-then-done_by
bounds-desk-i-then-done_by c =
    omega (arith, place_low (goal.at.bounds-desk-i-then-done_by c).After-saturating_sub-i)

pub store_front-requires : goal.store_front-requires
store_front-requires c = place_low (goal.at.store_front-requires c).After-saturating_sub-i

pub offset_bounds-had-i-then-done_by : goal.offset_bounds-had-i-then-done_by
offset_bounds-had-i-then-done_by c =
    omega (arith, place_low (goal.at.offset_bounds-had-i-then-done_by c).After-saturating_sub-i)

pub bounds-had-i-then-done_by : goal.bounds-had-i-then-done_by
bounds-had-i-then-done_by c =
    omega (arith, place_low (goal.at.bounds-had-i-then-done_by c).After-saturating_sub-i, c.loop-desk.invariant.long)

pub loop-desk-preserved-then-done_by : goal.loop-desk-preserved-then-done_by
loop-desk-preserved-then-done_by c =
    let z = sym (tested (goal.at.loop-desk-preserved-then-done_by c).After-done_by) ∙ c.if-done_by.true in
    let i = place_is (goal.at.loop-desk-preserved-then-done_by c).After-saturating_sub-i in
    let g = c.going_in-run.ensures in
    let o = rw i at c.end-ended.ensures in
    let w = c.put_finish.ensures in
    rw (c.store_front.ensures, i)
    (R.ended_on c.requires.0 c.loop-desk.invariant c.if-desk.true z o (rw g at w.windowed) w.upper_bound)

pub loop-desk-preserved-else-done_by : goal.loop-desk-preserved-else-done_by
loop-desk-preserved-else-done_by c =
    R.still_on c.requires.0 c.loop-desk.invariant c.if-desk.true (sym (tested (goal.at.loop-desk-preserved-else-done_by c).After-done_by) ∙ c.if-done_by.false)

pub bounds-arrivals-desk : goal.bounds-arrivals-desk
bounds-arrivals-desk c = omega (arith, triple (goal.at.bounds-arrivals-desk c).Then-coming-time)

pub overflow_sub-i : goal.overflow_sub-i
overflow_sub-i c = omega (arith, task_from (goal.at.overflow_sub-i c).Then-coming-time)

pub bounds-arrivals-desk-then-coming-time : goal.bounds-arrivals-desk-then-coming-time
bounds-arrivals-desk-then-coming-time c = omega (arith, triple (goal.at.bounds-arrivals-desk-then-coming-time c).Then-coming-time)

pub offset_bounds-desk-i-then-coming-time : goal.offset_bounds-desk-i-then-coming-time
offset_bounds-desk-i-then-coming-time c = omega (arith, task_low (goal.at.offset_bounds-desk-i-then-coming-time c).Then-coming-time)

pub bounds-desk-i-then-coming-time : goal.bounds-desk-i-then-coming-time
bounds-desk-i-then-coming-time c = omega (arith, task_low (goal.at.bounds-desk-i-then-coming-time c).Then-coming-time)

pub offset_bounds-plan-i-then-coming-time : goal.offset_bounds-plan-i-then-coming-time
offset_bounds-plan-i-then-coming-time c = omega (arith, task_low (goal.at.offset_bounds-plan-i-then-coming-time c).Then-coming-time)

pub bounds-plan-i-then-coming-time : goal.bounds-plan-i-then-coming-time
bounds-plan-i-then-coming-time c = omega (arith, task_low (goal.at.bounds-plan-i-then-coming-time c).Then-coming-time)

pub arrive-arrived-requires : goal.arrive-arrived-requires
arrive-arrived-requires c =
    R.arrivable c.requires.0 c.loop-desk.invariant c.if-desk.false c.loop-desk-test.true
    (now_is (goal.at.arrive-arrived-requires c).Then-coming-time)

pub offset_bounds-desk-i-then-coming-time-2 : goal.offset_bounds-desk-i-then-coming-time-2
offset_bounds-desk-i-then-coming-time-2 c = omega (arith, task_low (goal.at.offset_bounds-desk-i-then-coming-time-2 c).Then-coming-time)

pub bounds-desk-i-then-coming-time-2 : goal.bounds-desk-i-then-coming-time-2
bounds-desk-i-then-coming-time-2 c = omega (arith, task_low (goal.at.bounds-desk-i-then-coming-time-2 c).Then-coming-time)

pub store_front-requires-then-coming-time : goal.store_front-requires-then-coming-time
store_front-requires-then-coming-time c = task_low (goal.at.store_front-requires-then-coming-time c).Then-coming-time

pub loop-desk-smaller-then-coming-time : goal.loop-desk-smaller-then-coming-time
loop-desk-smaller-then-coming-time c = omega (arith, here (goal.at.loop-desk-smaller-then-coming-time c).Then-coming-time)

pub loop-desk-preserved-then-coming-time : goal.loop-desk-preserved-then-coming-time
loop-desk-preserved-then-coming-time c =
    let w = c.put_arrival.ensures in
    rw c.store_front-then-coming-time.ensures
    (R.arrived_on c.requires.0 c.loop-desk.invariant c.if-desk.false c.loop-desk-test.true
    (now_is (goal.at.loop-desk-preserved-then-coming-time c).Then-coming-time) c.arrive-arrived.ensures w.windowed w.upper_bound)

pub scan-instant-requires : goal.scan-instant-requires
scan-instant-requires c =
    (tasks_few c.args.plan c.requires.0.sound, c.loop-desk.invariant.fronts, c.loop-desk.invariant.long)

pub jump_from-jump-requires : goal.jump_from-jump-requires
jump_from-jump-requires c =
    let s = c.scan-instant.ensures in
    let u = R.until_in c.requires.0 c.loop-desk.invariant c.if-desk.false c.loop-desk-test.true
    (now_not (goal.at.jump_from-jump-requires c).Else-coming-time) in
    let k = ap (λ (x : Ticks). x.0) c.coming_at-coming.ensures in
    (omega (arith, c.loop-desk.invariant.cores, cores_few c.args.plan c.requires.0.sound), rw (s.next_value, k) u.0, rw (s.next_value, k) u.1)

pub put_spans-requires : goal.put_spans-requires
put_spans-requires c = (
  omega (arith, R.room c.requires.0 c.loop-desk.invariant),
  omega (arith, c.loop-desk.invariant.cores, cores_few c.args.plan c.requires.0.sound),
  c.loop-desk.invariant.wide,
)

pub ran_by-requires : goal.ran_by-requires
ran_by-requires c =
    let s = c.scan-instant.ensures in
    let j = c.jump_from-jump.ensures in
    let k = ap (λ (x : Ticks). x.0) c.coming_at-coming.ensures in
    let g = c.put_spans.ensures.goings_after in
    rw (j.more_value, s.seen_value, s.next_value, k)
    (R.addable c.requires.0 c.loop-desk.invariant c.if-desk.false c.loop-desk-test.true (now_not (goal.at.ran_by-requires c).Else-coming-time)
    (rw s.seen_value at g))

pub overflow_add-desk-else-coming-time : goal.overflow_add-desk-else-coming-time
overflow_add-desk-else-coming-time c =
    let s = c.scan-instant.ensures in
    let j = c.jump_from-jump.ensures in
    let k = ap (λ (x : Ticks). x.0) c.coming_at-coming.ensures in
    let v = rw (s.seen_value, s.next_value, k) at j.more_value in
    omega (
      arith,
      v,
      R.on_most c.requires.0 c.loop-desk.invariant c.if-desk.false c.loop-desk-test.true
          (now_not (goal.at.overflow_add-desk-else-coming-time c).Else-coming-time),
      R.time_in c.requires.0 c.loop-desk.invariant,
    )

pub loop-desk-smaller : goal.loop-desk-smaller
loop-desk-smaller c =
    let s = c.scan-instant.ensures in
    let j = c.jump_from-jump.ensures in
    let k = ap (λ (x : Ticks). x.0) c.coming_at-coming.ensures in
    let v = rw (s.seen_value, s.next_value, k) at j.more_value in
    let on = R.on_by c.requires.0 c.loop-desk.invariant c.if-desk.false c.loop-desk-test.true
    (now_not (goal.at.loop-desk-smaller c).Else-coming-time) in
    omega (
      arith,
      on,
      v,
      R.early c.requires.0 c.loop-desk.invariant c.if-desk.false c.loop-desk-test.true,
      c.loop-desk.invariant.cores,
      cores_few c.args.plan c.requires.0.sound,
    )

pub loop-desk-preserved : goal.loop-desk-preserved
loop-desk-preserved c =
    let s = c.scan-instant.ensures in
    let j = c.jump_from-jump.ensures in
    let k = ap (λ (x : Ticks). x.0) c.coming_at-coming.ensures in
    let w = c.put_spans.ensures in
    R.jumped_next c.requires.0 c.loop-desk.invariant c.if-desk.false c.loop-desk-test.true
    (now_not (goal.at.loop-desk-preserved c).Else-coming-time) (rw s.seen_value at w.goings_after)
    (rw (s.seen_value, s.next_value, k) at j.more_value) (rw (s.seen_value, s.next_value, k) at j.core_value) c.ran_by.ensures
    (rw s.seen_value at w.fact) w.upper_bound

pub returns : goal.returns
returns c =
    let o = ended c in
    record {
      stood = R.stood c.requires.0 c.loop-desk.invariant o.0 o.1;
      windowed = R.written c.requires.0 c.loop-desk.invariant o.0 o.1;
      end_bound = R.small_end c.requires.0 c.loop-desk.invariant;
    }
