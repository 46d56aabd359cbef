-- A sound record: what it says, and that it stays sound when one task's state or the clock moves on.
use Prim.Native.Nat.{ℕ, ◌≤◌, ◌<◌}
use mathlib.Core.Path.{◌≡◌, ◌∙◌}
use mathlib.Core.Bool.{true, cond}
use native.Mathlib.Omega.{arith}
use lib.Dec.{ltb}
use lib.ListN.{length, length-set}
use borrow.Author.Tests.{lt-ltb}
use Rattle.units.specs.Limits.{cores_limit, tasks_limit, clock_limit}
use Rattle.units.proofs.Units.{nums_long}
use Rattle.planning.specs.Plan.{row_of}
use Rattle.task_state.specs.declared.State.{State}
use Rattle.task_state.specs.State.{no_state}
use Rattle.state_rules.specs.Sound.{state_sound, state_empty}
use Rattle.dispatch.specs.declared.Record.{Record}
use Rattle.dispatch.specs.Record.{line_at, state_at, moved}
use Rattle.dispatch.specs.Look.{at_time}
use Rattle.task_state.specs.Shape.{Shaped as StateShaped}
use Rattle.dispatch.proofs.SoundFacts.{sound_facts, sound, state_sound_lem, task_below}
use Rattle.dispatch.specs.Shape.{Good}
use Rattle.dispatch.proofs.Stored.{stored}
use Rattle.soundness.proofs.Lined.{Lined, lined}

module _ (r : Record) (g : Good r) where
  module _ (i : ℕ) (h : i < r.plan.count) where
    -- a task's number is below the limit
    pub task_in : i < tasks_limit
    task_in = task_below r (sound_facts r g.sound) i h

    -- what is known of its line
    pub task_lined : Lined (line_at r i)
    task_lined = lined r.plan g.shaped.plan.lines (sound_facts r g.sound).plan i h

    -- its row has sixteen shares
    pub task_wide : length (row_of (line_at r i)) ≡ cores_limit
    task_wide = nums_long (line_at r i).shares cores_limit (g.shaped.plan.shares i task_in)

    -- its state has sixteen counts and eight runs
    pub task_shaped : StateShaped (state_at r i)
    task_shaped = g.shaped.each i task_in

    -- and is sound
    pub task_sound : state_sound (line_at r i) (state_at r i) ≡ true
    task_sound = state_sound_lem r (sound_facts r g.sound) i h

    -- one task's state moves on
    pub moved_good : (st : State) (t : ℕ) → t ≤ clock_limit → StateShaped st → state_sound (line_at r i) st ≡ true → Good (moved r i st t)
    moved_good st t now sh s =
        let l : i < length r.states = omega (arith, task_in, g.shaped.states) in
        record {
          shaped = record {
            plan = g.shaped.plan;
            states = length-set r.states i st ∙ g.shaped.states;
            each = stored r.states i st no_state l (λ j u. j < tasks_limit → StateShaped u) (λ m. sh) (λ j n m. g.shaped.each j m);
          };
          sound = sound (moved r i st t) (record {
            clock = now;
            plan = (sound_facts r g.sound).plan;
            states =
                stored r.states i st no_state l
                (λ j u. j < tasks_limit → cond (ltb j r.plan.count) (state_sound (line_at r j) u) (state_empty u) ≡ true)
                (λ m. rw (lt-ltb i r.plan.count h) s)
                (λ j n m. (sound_facts r g.sound).states j m);
          });
        }

  -- the clock alone moves on
  pub timed_good : (t : ℕ) → t ≤ clock_limit → Good (at_time r t)
  timed_good t now = record {
    shaped = record { plan = g.shaped.plan; states = g.shaped.states; each = g.shaped.each };
    sound = sound (at_time r t) (record { clock = now; plan = (sound_facts r g.sound).plan; states = (sound_facts r g.sound).states });
  }
