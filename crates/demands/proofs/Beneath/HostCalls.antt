-- The host's calls on a lent record, taken and refused.
use Prim.Native.Nat.{ℕ}
use mathlib.Core.Path.{◌≡◌, refl, sym, ◌∙◌}
use mathlib.Core.List.{List}
use lib.IntN.{ℤ}
use borrow.Author.Tests.{ne_eqb}
use Rattle.units.specs.declared.ticks.Ticks.{Ticks}
use Rattle.core_choice.specs.declared.Told.{Told}
use Rattle.core_choice.specs.Told.{told_of}
use Rattle.soundness.proofs.Taken.{plan_number}
use Rattle.dispatch.specs.declared.Record.{Record}
use Rattle.dispatch.specs.declared.call.Call.TheVariants.{Release, Finish, Look}
use Rattle.dispatch.specs.Record.{fresh_of}
use Rattle.dispatch.specs.Release.{release_of, release_or}
use Rattle.dispatch.specs.Finish.{finish_of, finish_or}
use Rattle.dispatch.specs.Look.{look_of, look_or}
use Rattle.dispatch.specs.Calls.{call_refusal}
use Rattle.dispatch.proofs.Answers.{release_answer, finish_answer, look_answer, release_or_refused, finish_or_refused, look_or_refused}
use Rattle.dispatch.proofs.OneCall.{release_no_lem, finish_no_lem, look_no}
use Rattle.host.specs.Host.{table_in, admit_of}
use Rattle.host.specs.Dispatcher.{start_or}

module _ (r : Record) (i : ℕ) (t : Ticks) where
  pub release_kept : (core : ℕ) (deadline : Ticks) (n : ℕ) → (n ≡ 0 → ⊥) → call_refusal r (Release i t) ≡ n
      → release_or r i t.0 core deadline ≡ record { refusal = n; core = core; deadline = deadline; next = r }
  release_kept core deadline n some e = release_or_refused r i t.0 core deadline (sym e ∙ release_no_lem r i t) some

  pub release_taken : (core : ℕ) (deadline : Ticks) → call_refusal r (Release i t) ≡ 0 → release_or r i t.0 core deadline ≡ release_of r i t.0
  unfolding release_or
  release_taken core deadline e =
      let z : (release_of r i t.0).refusal ≡ 0 = release_answer r i t.0 ∙ sym (release_no_lem r i t) ∙ e in
      rw z

  pub finish_kept : (late : ℤ) (n : ℕ) → (n ≡ 0 → ⊥) → call_refusal r (Finish i t) ≡ n
      → finish_or r i t.0 late ≡ record { refusal = n; late = late; next = r }
  finish_kept late n some e = finish_or_refused r i t.0 late (sym e ∙ finish_no_lem r i t) some refl

  pub finish_taken : (late : ℤ) → call_refusal r (Finish i t) ≡ 0 → finish_or r i t.0 late ≡ finish_of r i t.0
  unfolding finish_or
  finish_taken late e =
      let z : (finish_of r i t.0).refusal ≡ 0 = finish_answer r i t.0 ∙ sym (finish_no_lem r i t) ∙ e in
      rw z

  pub look_kept : (told : Told) (n : ℕ) → (n ≡ 0 → ⊥) → call_refusal r (Look i t) ≡ n
      → look_or r i t.0 told ≡ record { refusal = n; told = told; next = r }
  look_kept told n some e = look_or_refused r i t.0 told (sym e ∙ look_no r i t) some

  pub look_taken : (told : Told) → call_refusal r (Look i t) ≡ 0 →
      let a = look_of r i t.0 in look_or r i t.0 told ≡ record { refusal = 0; told = told_of a.choice; next = a.next }
  unfolding look_or
  look_taken told e =
      let z : (look_of r i t.0).refusal ≡ 0 = look_answer r i t.0 ∙ sym (look_no r i t) ∙ e in
      rw z

module _ (r : Record) (m : ℕ) (bytes : List ℕ) where
  -- planning's number is the admission number
  number : (fresh_of m (table_in bytes)).refusal.no ≡ admit_of m bytes
  unfolding fresh_of admit_of
  number = plan_number m (table_in bytes)

  pub start_kept : (n : ℕ) → (n ≡ 0 → ⊥) → admit_of m bytes ≡ n → start_or r m bytes ≡ record { refusal = n; next = r }
  unfolding start_or
  start_kept n some e = rw (number, e, ne_eqb n 0 some)

  pub start_taken : admit_of m bytes ≡ 0 → start_or r m bytes ≡ record { refusal = 0; next = (fresh_of m (table_in bytes)).next }
  unfolding start_or
  start_taken e = rw (number, e)
