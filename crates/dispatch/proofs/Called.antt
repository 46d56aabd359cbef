-- What a call may rely on once it has passed 15, 7 or 13, 12 and 8.
use Prim.Native.Nat.{ℕ, ◌+◌, ◌-◌, ◌^◌, ◌≤◌, ◌<◌}
use mathlib.Core.Bool.{Bool}
use mathlib.Core.Path.{◌≡◌}
use native.Mathlib.Omega.{arith}
use borrow.Author.Tests.{eq-eqb}
use Rattle.units.specs.Limits.{cores_limit, tasks_limit, period_limit, clock_limit}
use Rattle.units.specs.Refusals.{task_no}
use Rattle.call_tests.specs.Tests.{shared_tests}
use Rattle.soundness.proofs.Facts.{tasks_few, cores_few, weight_small, shares_sum}
use Rattle.task_state.specs.Tests.{release_tests, finish_tests}
use Rattle.task_state.specs.Key.{deadline_of}
use Rattle.task_state.specs.Inner.{Releasable}
use Rattle.state_rules.proofs.Facts.{facts, releasable}
use Rattle.task_state.proofs.Passed.{has_run}
use Rattle.dispatch.specs.declared.Record.{Record}
use Rattle.dispatch.specs.Sound.{sound_of}
use Rattle.dispatch.specs.Record.{line_at, state_at}
use Rattle.dispatch.specs.Look.{best_of, at_time}
use Rattle.dispatch.specs.Refusals.{task_tests, look_refusal, release_refusal, finish_refusal}
use Rattle.dispatch.proofs.SoundFacts.{sound_facts, task_below, state_sound_lem, due_small}
use Rattle.dispatch.proofs.Looking.{best_of_all}
use Rattle.dispatch.proofs.Passed.{task_passed, look_passed}

-- task i, from 1, at time t: the numbers are in their ranges, the call's own tests decide, and a call that passes them can be taken
pub record TaskCall (r : Record) (i t : ℕ) : Type 0 where
  pub from : 0 < i
  pub below : i - 1 < tasks_limit
  pub time_in : t ≤ clock_limit
  pub last : (state_at r (i - 1)).last.0 ≤ clock_limit
  pub time_fits : t < 2 ^ 63
  pub due_fits : deadline_of (state_at r (i - 1)) < 2 ^ 63
  pub release_number : release_refusal r i t ≡ release_tests (line_at r (i - 1)) (state_at r (i - 1)) t
  pub finish_number : finish_refusal r i t ≡ finish_tests (line_at r (i - 1)) (state_at r (i - 1)) t
  pub can_release : release_tests (line_at r (i - 1)) (state_at r (i - 1)) t ≡ 0 → Releasable (line_at r (i - 1)) (state_at r (i - 1)) t
  pub can_finish : finish_tests (line_at r (i - 1)) (state_at r (i - 1)) t ≡ 0 → 0 < (state_at r (i - 1)).live

-- what every call for a task tests first
pub task_first : (r : Record) (i t : ℕ) {sound : Bool} {n : ℕ} → sound ≡ sound_of r → n ≡ shared_tests sound task_no r.plan.count i r.clock.0 t
    → n ≡ task_tests r i t
unfolding task_tests
task_first r i t e q = rw e at q

-- so it is where none of 15, 7, 12 and 8 applies
pub task_call : {r : Record} {i t : ℕ} → task_tests r i t ≡ 0 → TaskCall r i t
unfolding release_refusal finish_refusal
task_call {r} {i} {t} e =
    let p = task_passed r i t e in
    let k = sound_facts r p.sound in
    let ln = line_at r (i - 1) in
    let st = state_at r (i - 1) in
    let h = p.here in
    let f = facts ln st (state_sound_lem r k (i - 1) h) in
    let weight = weight_small r.plan k.plan (i - 1) h in
    let shares = shares_sum r.plan k.plan (i - 1) h in
    record {
      from = p.from;
      below = task_below r k (i - 1) h;
      time_in = p.limit;
      last = f.last;
      time_fits = omega (arith, p.limit);
      due_fits = omega (arith, due_small r k (i - 1) h);
      release_number = rw (eq-eqb (task_tests r i t) 0 e);
      finish_number = rw (eq-eqb (task_tests r i t) 0 e);
      can_release = λ z. releasable ln st f t z weight shares;
      can_finish = λ z. has_run ln st t z;
    }

-- core k, from 1, at time t: both are in their ranges, the tasks' deadlines are in theirs, and the best of the tasks is the best of all
pub record CoreCall (r : Record) (k t : ℕ) : Type 0 where
  pub from : 0 < k
  pub few : k ≤ cores_limit
  pub tasks : r.plan.count ≤ tasks_limit
  pub time : t ≤ clock_limit
  pub due : (i : ℕ) → i < r.plan.count → deadline_of (state_at r i) ≤ clock_limit + period_limit
  pub all : best_of (at_time r t) k tasks_limit ≡ best_of (at_time r t) k r.plan.count

-- so it is where none of 15, 13, 12 and 8 applies
pub core_call : {r : Record} {k : ℕ} (t : ℕ) → look_refusal r k t ≡ 0 → CoreCall r k t
core_call {r} {k} t e =
    let p = look_passed r k t e in
    let s = sound_facts r p.sound in
    record {
      from = p.from;
      few = omega (arith, p.to, cores_few r.plan s.plan);
      tasks = tasks_few r.plan s.plan;
      time = p.limit;
      due = due_small r s;
      all = best_of_all (at_time r t) (record { clock = p.limit; plan = s.plan; states = s.states }) k;
    }
