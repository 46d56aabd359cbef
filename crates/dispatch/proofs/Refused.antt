-- A refused list's record is the empty one, which every call refuses by 15.
use Prim.Native.Nat.{ℕ}
use mathlib.Core.Path.{◌≡◌, refl, ◌∙◌}
use mathlib.Core.Bool.{false}
use mathlib.Core.List.{List, [], ◌∷◌}
use native.Mathlib.Omega.{arith}
use borrow.Author.Tests.{ne_eqb}
use Rattle.admission.specs.Admission.{plan_refusal}
use Rattle.planning.specs.Plan.{plan_of, refused_plan, empty_plan}
use Rattle.soundness.specs.Plan.{plan_sound}
use Rattle.soundness.proofs.Taken.{plan_number}
use Rattle.dispatch.specs.declared.Record.{Record}
use Rattle.dispatch.specs.declared.call.Call.{Call}
use Rattle.dispatch.specs.declared.call.Call.TheVariants.{Release, Finish, Look}
use Rattle.dispatch.specs.Record.{record_of, fresh_of}
use Rattle.dispatch.specs.Sound.{sound_of}
use Rattle.dispatch.specs.Calls.{call_refusal, after}
use Rattle.dispatch.specs.Given.{here}
use Rattle.dispatch.proofs.Exactly.{exactly}
use Rattle.dispatch.proofs.Always.{refused_same}

module _ (r : Record) (u : sound_of r ≡ false) where
  -- an unsound record is refused by every call
  pub unsound_15 : (c : Call) → call_refusal r c ≡ 15
  unsound_15 (Release i t) = (exactly r (Release i t) 15).1 (here u)
  unsound_15 (Finish i t) = (exactly r (Finish i t) 15).1 (here u)
  unsound_15 (Look k t) = (exactly r (Look k t) 15).1 (here u)

  -- so any calls hand it back
  pub unsound_stays : (cs : List Call) → after r cs ≡ r
  unsound_stays [] = refl
  unsound_stays (c ∷ cs) = rw (refused_same r c (λ e. omega (arith, unsound_15 c))) (unsound_stays cs)

module _ (m : ℕ) (xs : List ℕ) (not : (fresh_of m xs).refusal.no ≡ 0 → ⊥) where
  -- a refused list's record is that of the empty plan
  pub refused_empty : (fresh_of m xs).next ≡ record_of empty_plan
  unfolding fresh_of plan_of refused_plan
  refused_empty = rw (ne_eqb (plan_refusal m xs).no 0 (λ e. not (plan_number m xs ∙ e)))

  -- which is unsound
  pub refused_unsound : sound_of (fresh_of m xs).next ≡ false
  unfolding sound_of record_of empty_plan plan_sound
  refused_unsound = rw refused_empty
