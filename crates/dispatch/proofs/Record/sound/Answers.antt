-- `dispatch::Record::sound` meets its contract.
use Rattle.dispatch.specs.Sound.{state_ok, sound_of}
use Rattle.dispatch.specs.declared.Record.{Record}
use Rattle.soundness.specs.Plan.{plan_sound}
use Rattle.lists.specs.Below.{all_below}
use Rattle.lists.proofs.Tests.{by_cases}
use Rattle.units.specs.Limits.{tasks_limit, clock_limit}
use borrow.Author.Tests.{lt-leb, le-leb}
use Prim.Native.Nat.{◌≤◌}
use mathlib.Core.Bool.{Bool, true, false}
use mathlib.Core.Path.{◌≡◌, sym, ◌∙◌}
use Rattle.dispatch.proofs.Record.sound.Goals as goal

-- each task in use is sound, the others are empty
abbrev all : Record → Bool
all r = all_below tasks_limit (state_ok r.plan r.states)

-- a clock in its range: then a record with an unsound state is unsound, and another is as sound as its plan
module _ (r : Record) (h : r.clock.0 ≤ clock_limit) where
  by_states : all r ≡ false → false ≡ sound_of r
  unfolding sound_of
  by_states e = rw (le-leb r.clock.0 clock_limit h, e) (by_cases (plan_sound r.plan) (λ p. rw p) (λ p. rw p))

  by_plan : all r ≡ true → plan_sound r.plan ≡ sound_of r
  unfolding sound_of
  by_plan e = rw (le-leb r.clock.0 clock_limit h, e) (by_cases (plan_sound r.plan) (λ p. rw p) (λ p. rw p))

pub returns-then-self-gt-CLOCK : goal.returns-then-self-gt-CLOCK
unfolding sound_of
returns-then-self-gt-CLOCK c = sym (rw (lt-leb c.args.self.clock.0 clock_limit c.if-self-gt-CLOCK.true))

pub returns-then-not-states_sound : goal.returns-then-not-states_sound
returns-then-not-states_sound c =
    by_states c.args.self c.if-self-gt-CLOCK.false (sym c.states_sound.ensures ∙ c.if-not-states_sound.true)

pub returns : goal.returns
returns c =
    c.plan_sound.ensures
    ∙ by_plan c.args.self c.if-self-gt-CLOCK.false (sym c.states_sound.ensures ∙ c.if-not-states_sound.false)
