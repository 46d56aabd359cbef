-- The numbers of an answer: each call answers those of its rule.
use Prim.Native.Nat.{ℕ}
use mathlib.Core.Path.{◌≡◌, refl}
use mathlib.Core.Logic.{◌⊎◌, inl, inr}
use lib.Dec.{eqb}
use lib.IntN.{pos}
use Rattle.units.specs.Units.{ticks}
use Rattle.lists.proofs.Tests.{by_cases}
use Rattle.dispatch.specs.declared.Record.{Record}
use Rattle.core_choice.specs.declared.Choice.{Choice}
use Rattle.dispatch.specs.declared.call.Call.TheVariants.{Release, Finish, Look}
use Rattle.dispatch.specs.Calls.{Answer}
use Rattle.dispatch.specs.Calls.Answer.{Refused, Released, Finished, Looked}
use Rattle.dispatch.specs.Refusals.{look_refusal, release_refusal, finish_refusal}
use Rattle.dispatch.specs.Release.{take_release, refuse_release, release_of}
use Rattle.dispatch.specs.Finish.{take_finish, refuse_finish, finish_of}
use Rattle.dispatch.specs.Look.{look_of}
use Rattle.dispatch.specs.Calls.{refusal_in, answered_of}
use Rattle.dispatch.specs.Choice.{Waits, deadline_at, UpperOn, LowerOn, FixedOn, GoesFirst, Chosen, idle, as_upper, as_lower, as_fixed}
use Rattle.core_choice.specs.Told.{choice_kind, choice_task, choice_deadline}
use Rattle.dispatch.specs.Values.{values_of}

-- the choice that document 01 describes, in numbers
pub chosen_told : {r : Record} {k : ℕ} {x : Choice} → Chosen r k x
    → ((choice_kind x ≡ 0) × ((i : ℕ) → Waits r k i → ⊥))
    ⊎ (GoesFirst r k (choice_task x)
    × (choice_deadline x ≡ deadline_at r (choice_task x))
    × (((choice_kind x ≡ 1) × FixedOn r k (choice_task x))
    ⊎ (((choice_kind x ≡ 2) × LowerOn r k (choice_task x)) ⊎ ((choice_kind x ≡ 3) × UpperOn r k (choice_task x)))))
chosen_told (idle n) = inl (refl, n)
chosen_told (as_fixed j g f) = inr (g, refl, inl (refl, f))
chosen_told (as_lower j g l) = inr (g, refl, inr (inl (refl, l)))
chosen_told (as_upper j g u) = inr (g, refl, inr (inr (refl, u)))

-- a refusal is the only number that is not 0
pub refused_alone : (a : Answer) → (refusal_in a ≡ 0 → ⊥)
    → values_of a ≡ record { refusal = refusal_in a; core = 0; late = pos 0; kind = 0; task = 0; deadline = 0 }
refused_alone (Refused x) h = refl
refused_alone (Released p d) h = absurd (h refl)
refused_alone (Finished z) h = absurd (h refl)
refused_alone (Looked c) h = absurd (h refl)

module _ (r : Record) (i t : ℕ) where
  -- a release answers the run's core and deadline
  pub release_values :
      values_of (answered_of r (Release i (ticks t))).answer ≡
      let a = release_of r i t in record { refusal = a.refusal; core = a.core; late = pos 0; kind = 0; task = 0; deadline = a.deadline.0 }
  unfolding release_of take_release refuse_release
  release_values = by_cases (eqb (release_refusal r i t) 0) (λ e. rw e) (λ e. rw (e, e))

  -- a finish the time less the deadline
  pub finish_values :
      values_of (answered_of r (Finish i (ticks t))).answer ≡
      let a = finish_of r i t in record { refusal = a.refusal; core = 0; late = a.late; kind = 0; task = 0; deadline = 0 }
  unfolding finish_of take_finish refuse_finish
  finish_values = by_cases (eqb (finish_refusal r i t) 0) (λ e. rw e) (λ e. rw (e, e))

  -- a look the core's choice
  pub look_values :
      values_of (answered_of r (Look i (ticks t))).answer ≡
      let a = look_of r i t in
      let c = a.choice in
      record { refusal = a.refusal; core = 0; late = pos 0; kind = choice_kind c; task = choice_task c; deadline = choice_deadline c }
  unfolding look_of
  look_values = by_cases (eqb (look_refusal r i t) 0) (λ e. rw e) (λ e. rw (e, e))
