-- A task that waits on a core at an instant: it has a run, the oldest is on that core, and that is released.
use Prim.Native.Nat.{ℕ, ◌-◌, ◌≤◌, ◌<◌}
use mathlib.Core.Path.{◌≡◌}
use mathlib.Core.Bool.{true, not, ◌&&◌}
use lib.Dec.{ltb, eqb}
use borrow.Author.Tests.{ltb-true, ltb-false, lt-ltb, le-ltb, eqb-true, eq-eqb, not-true}
use Rattle.lists.proofs.Tests.{and_left, and_right}
use Rattle.planning.specs.declared.Line.{Line}
use Rattle.task_state.specs.declared.State.{State}
use Rattle.task_state.specs.State.{run_at}
use Rattle.task_state.specs.Due.{due_after, held}
use Rattle.task_state.specs.Key.{deadline_of, waits}

pub record Waiting (ln : Line) (st : State) (k x : ℕ) : Type 0 where
  pub unfinished : 0 < st.live
  pub there : (run_at st 0).core ≡ k
  pub released : deadline_of st - due_after ln ≤ x

module _ (ln : Line) (st : State) (k x : ℕ) where
  -- the test says so
  pub waits_told : waits ln st k x ≡ true → Waiting ln st k x
  waits_told w =
      let a = ltb 0 st.live in
      let b = eqb (run_at st 0).core k in
      let c = held ln (run_at st 0) x in
      let ab = and_left (a && b) (not c) w in
      record {
        unfinished = ltb-true 0 st.live (and_left a b ab);
        there = eqb-true (run_at st 0).core k (and_right a b ab);
        released = ltb-false x (deadline_of st - due_after ln) (not-true c (and_right (a && b) (not c) w));
      }

  -- and where it is so, the test does
  pub told_waits : Waiting ln st k x → waits ln st k x ≡ true
  told_waits w =
      rw (
        lt-ltb 0 st.live w.unfinished,
        eq-eqb (run_at st 0).core k w.there,
        le-ltb x (deadline_of st - due_after ln) w.released,
      )
