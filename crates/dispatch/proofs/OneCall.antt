-- A call as a value is answered as its method answers it.
use Prim.Native.Nat.{ℕ}
use mathlib.Core.Path.{◌≡◌, refl, sym, ap, ◌∙◌}
use lib.Dec.{eqb}
use lib.IntN.{ℤ}
use Rattle.std.specs.Result.{MatchResult, IsOkAnd}
use Rattle.std.specs.declared.result.Result.{Result}
use Rattle.std.specs.declared.result.Result.TheVariants.{Ok, Err}
use Rattle.units.specs.Refusals.{refusal, number}
use Rattle.units.specs.declared.refusal.Reason.{Reason}
use Rattle.units.proofs.Refusals.{refuses}
use Rattle.stored_runs.specs.declared.Run.{Run}
use Rattle.core_choice.specs.declared.Choice.{Choice}
use Rattle.core_choice.specs.declared.Choice.TheVariants.{Idle}
use Rattle.core_choice.specs.declared.Told.{Told}
use Rattle.core_choice.specs.Told.{told_of, choice_told}
use Rattle.dispatch.specs.declared.call.Answer.{Answer as TakenAnswer}
use Rattle.dispatch.specs.declared.call.Answer.TheVariants as Taken
use borrow.Author.Tests.{eqb-true, ne_eqb}
use Rattle.lists.proofs.Tests.{by_cases}
use Rattle.units.specs.declared.ticks.Ticks.{Ticks}
use Rattle.dispatch.specs.declared.Record.{Record}
use Rattle.dispatch.specs.declared.call.Call.{Call}
use Rattle.dispatch.specs.declared.call.Call.TheVariants.{Release, Finish, Look}
use Rattle.dispatch.specs.Calls.{Answer}
use Rattle.dispatch.specs.Calls.Answer.{Refused}
use Rattle.dispatch.specs.Calls.{Answered}
use Rattle.dispatch.specs.Refusals.{release_refusal, finish_refusal, look_refusal}
use Rattle.dispatch.specs.Release.{release_of, release_told, refuse_release}
use Rattle.dispatch.specs.Finish.{finish_of, finish_told, refuse_finish}
use Rattle.dispatch.specs.Look.{look_of, look_or, look_told, numbers_told}
use Rattle.dispatch.specs.Calls.{or_refused, answered_of, call_told, refusal_in, call_refusal}
use Rattle.dispatch.proofs.Answers.{release_answer, finish_answer, look_answer, look_or_idle}

module _ (n : ℕ) (taken : Answer) where
  -- the refusal is the number that was given
  given : refusal_in taken ≡ 0 → refusal_in (or_refused n taken) ≡ n
  given z = by_cases (eqb n 0) (λ e. rw e (z ∙ sym (eqb-true n 0 e))) (λ e. rw e refl)

-- a refusal is handed on
refused_on : (p : Reason) (taken : Answer) → Refused (refusal (number p) 0) ≡ or_refused (number p) taken
refused_on p taken = sym (rw (ne_eqb (number p) 0 (λ z. refuses p z)) refl)

module _ (r : Record) {c : Call} {i : ℕ} {t : Ticks} {n : Record} where
  -- a release
  pub release_mapped : c ≡ Release i t → (a : Result Run Reason) (b : Result TakenAnswer Reason)
      → MatchResult a (λ x. IsOkAnd b (λ y. y ≡ Taken.Released x.core x.deadline)) (λ e. b ≡ Err e)
      → release_told a n ≡ release_of r i t.0 → ◌≡◌ {A = Answered} (record { answer = call_told b; next = n }) (answered_of r c)
  unfolding refuse_release
  release_mapped k (Ok x) (Ok y) m e = rw (k, ← e, m) refl
  release_mapped k (Ok x) (Err q) m e = absurd m
  release_mapped k (Err p) b m e = rw (k, ← e, m) (ap (λ (z : Answer). record { answer = z; next = n }) (refused_on p _))

  -- a finish
  pub finish_mapped : c ≡ Finish i t → (a : Result ℤ Reason) (b : Result TakenAnswer Reason)
      → MatchResult a (λ x. IsOkAnd b (λ y. y ≡ Taken.Finished x)) (λ e. b ≡ Err e)
      → finish_told a n ≡ finish_of r i t.0 → ◌≡◌ {A = Answered} (record { answer = call_told b; next = n }) (answered_of r c)
  unfolding refuse_finish
  finish_mapped k (Ok x) (Ok y) m e = rw (k, ← e, m) refl
  finish_mapped k (Ok x) (Err q) m e = absurd m
  finish_mapped k (Err p) b m e = rw (k, ← e, m) (ap (λ (z : Answer). record { answer = z; next = n }) (refused_on p _))

  -- a look
  pub look_handed : c ≡ Look i t → (a : Result Choice Reason) (b : Result TakenAnswer Reason)
      → MatchResult a (λ x. IsOkAnd b (λ y. y ≡ Taken.Looked x)) (λ e. b ≡ Err e)
      → look_told a n ≡ look_of r i t.0 → ◌≡◌ {A = Answered} (record { answer = call_told b; next = n }) (answered_of r c)
  look_handed k (Ok x) (Ok y) m e = rw (k, ← e, m) refl
  look_handed k (Ok x) (Err q) m e = absurd m
  look_handed k (Err p) b m e = rw (k, ← e, m) (ap (λ (z : Answer). record { answer = z; next = n }) (refused_on p _))

module _ (r : Record) (k t : ℕ) where
  -- a look's choice, by its numbers
  pub look_mapped : (n : Record) (a : Result Told Reason) (b : Result Choice Reason)
      → MatchResult a (λ x. IsOkAnd b (λ y. y ≡ choice_told x)) (λ e. b ≡ Err e)
      → numbers_told a n ≡ look_or r k t (told_of Idle) → look_told b n ≡ look_of r k t
  look_mapped n (Ok x) (Ok y) m e = look_or_idle r k t e m
  look_mapped n (Ok x) (Err q) m e = absurd m
  look_mapped n (Err p) b m e = rw m (look_or_idle r k t e refl)

module _ (r : Record) (i : ℕ) (t : Ticks) where
  -- a release is refused by the first number that applies to it
  pub release_no_lem : call_refusal r (Release i t) ≡ release_refusal r i t.0
  release_no_lem = given (release_of r i t.0).refusal _ refl ∙ release_answer r i t.0

  -- a finish
  pub finish_no_lem : call_refusal r (Finish i t) ≡ finish_refusal r i t.0
  finish_no_lem = given (finish_of r i t.0).refusal _ refl ∙ finish_answer r i t.0

  -- a look
  pub look_no : call_refusal r (Look i t) ≡ look_refusal r i t.0
  look_no = given (look_of r i t.0).refusal _ refl ∙ look_answer r i t.0
