-- The fresh record of a plan is good, exactly if the plan is sound and has its lines.
use Prim.Native.Nat.{ℕ, ◌<◌}
use mathlib.Core.Path.{◌≡◌, sym, subst}
use mathlib.Core.Logic.{◌↔◌}
use mathlib.Core.Bool.{true}
use native.Mathlib.Omega.{arith}
use lib.Dec.{ltb}
use lib.ListN.{length-replicate, get_or-replicate}
use borrow.Author.Tests.{ltb-true}
use Rattle.units.specs.Limits.{tasks_limit}
use Rattle.lists.proofs.Tests.{by_cases}
use Rattle.planning.specs.declared.Plan.{Plan}
use Rattle.soundness.specs.Plan.{plan_sound}
use Rattle.task_state.specs.State.{fresh_state, no_state}
use Rattle.task_state.specs.Shape.{Shaped as StateShaped}
use Rattle.state_rules.proofs.Fresh.{fresh_shaped, fresh_sound, fresh_empty}
use Rattle.dispatch.specs.Record.{record_of, line_at, state_at}
use Rattle.dispatch.specs.Sound.{state_ok}
use Rattle.dispatch.specs.Shape.{Good}
use Rattle.planning.specs.Shape.{PlanShaped}
use Rattle.soundness.proofs.Lined.{lined}
use Rattle.dispatch.proofs.SoundFacts.{sound_facts, sound}

module _ (pl : Plan) where
  -- each task is fresh
  pub fresh_at : (i : ℕ) → i < tasks_limit → state_at (record_of pl) i ≡ fresh_state
  unfolding record_of
  fresh_at i h = get_or-replicate tasks_limit i fresh_state no_state h

  module _ (long : PlanShaped pl) (s : plan_sound pl ≡ true) where
    -- and sound, or empty past the N tasks
    fresh_ok : (i : ℕ) → i < tasks_limit → state_ok pl (record_of pl).states i ≡ true
    unfolding record_of
    fresh_ok i h =
        rw (fresh_at i h)
        (by_cases (ltb i pl.count)
        (λ e. rw e (fresh_sound (line_at (record_of pl) i) (lined pl long.lines s i (ltb-true i pl.count e)).some))
        (λ e. rw e fresh_empty))

    -- so the record is good
    pub fresh_good : Good (record_of pl)
    unfolding record_of
    fresh_good = record {
      shaped = record {
        plan = long;
        states = length-replicate tasks_limit fresh_state;
        each = λ i h. subst StateShaped (sym (fresh_at i h)) fresh_shaped;
      };
      sound = sound (record_of pl) (record { clock = omega arith; plan = s; states = fresh_ok });
    }

  -- and only so
  pub fresh_exactly : Good (record_of pl) ↔ (PlanShaped pl × (plan_sound pl ≡ true))
  unfolding record_of
  fresh_exactly = (λ g. (g.shaped.plan, (sound_facts (record_of pl) g.sound).plan), λ s. fresh_good s.0 s.1)
