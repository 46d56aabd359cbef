-- Over any calls on the fresh record of a sound plan.
use Prim.Native.Nat.{ℕ, zero, suc, ◌+◌, ◌-◌, ◌≤◌, ◌<◌}
use mathlib.Core.Path.{◌≡◌, refl}
use mathlib.Core.List.{List, ◌∷◌}
use native.Mathlib.Omega.{arith}
use lib.ListN.{length, get_or, get_or-replicate}
use Rattle.units.specs.Limits.{tasks_limit}
use Rattle.planning.specs.declared.Line.{Line}
use Rattle.planning.specs.declared.Plan.{Plan}
use Rattle.planning.specs.Tasks.{task_line}
use Rattle.task_state.specs.State.{fresh_state, no_state}
use Rattle.dispatch.specs.declared.call.Call.{Call}
use Rattle.dispatch.specs.Record.{record_of}
use Rattle.dispatch.specs.Shape.{Good}
use Rattle.dispatch.specs.Calls.{after}
use Rattle.dispatch.specs.Given.{task_state}
use Rattle.dispatch.proofs.Records.{task_in}
use Rattle.release_order.specs.Releases.{Came, came_of, times_of, After, none, at_once, held, FromFirst, first}
use Rattle.release_order.proofs.InOrder.{InOrder, fresh_order}
use Rattle.release_order.proofs.Over.{Task, calls_order, follow}

module _ (T : ℕ) where
  -- each is at least T above the one before it
  after_apart : {x : ℕ} {xs : List Came} → After T x xs → (c : ℕ) → c < length (times_of xs) → get_or (x ∷ times_of xs) c 0 + T ≤ get_or (times_of xs) c 0
  after_apart none c l = absurd (omega arith)
  after_apart (at_once h a) zero l = h
  after_apart (held h a) zero l = omega arith
  after_apart (at_once h a) (suc c) l = after_apart a c (omega arith)
  after_apart (held h a) (suc c) l = after_apart a c (omega arith)

  pub all_apart : {xs : List Came} → FromFirst T xs → (c : ℕ) → suc c < length (times_of xs) → get_or (times_of xs) c 0 + T ≤ get_or (times_of xs) (suc c) 0
  all_apart none c l = absurd (omega arith)
  all_apart (first a) c l = after_apart a c (omega arith)

module _ (pl : Plan) (g : Good (record_of pl)) (i : ℕ) (from : 1 ≤ i) (to : i ≤ pl.count) (cs : List Call) where
  -- the task's line, and what it is at before any call
  abbrev ln : Line
  ln = task_line pl i

  fresh : task_state (record_of pl) i ≡ fresh_state
  unfolding record_of
  fresh = get_or-replicate tasks_limit (i - 1) fresh_state no_state (task_in (record_of pl) g (i - 1) (omega (arith, from, to)))

  task : Task i ln (record_of pl)
  unfolding record_of
  task = record { good = g; from = from; to = to; line = refl }

  -- each release time is its call's time, or the last one plus T where that is later
  pub release_times : FromFirst ln.period.0 (came_of i (record_of pl) cs)
  unfolding fresh_state
  release_times = (follow i ln cs (record_of pl) task).1 (λ e. absurd (omega (arith, rw fresh at e)))

  -- so they lie at least T apart
  pub releases_apart : (c : ℕ) → suc c < length (times_of (came_of i (record_of pl) cs))
      → get_or (times_of (came_of i (record_of pl) cs)) c 0 + ln.period.0 ≤ get_or (times_of (came_of i (record_of pl) cs)) (suc c) 0
  releases_apart = all_apart ln.period.0 release_times

  -- and the stored runs stand in their order
  pub runs_in_order : InOrder ln (task_state (after (record_of pl) cs) i)
  runs_in_order = calls_order i ln (record_of pl) cs task (rw fresh (fresh_order ln))
