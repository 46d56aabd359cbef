-- Sound records in document 01's words: what makes one, that 15 is given for every other, and that calls from an accepted list reach no other.
use Prim.Native.Nat.{ℕ}
use mathlib.Core.Path.{◌≡◌, sym, ap, ◌∙◌}
use mathlib.Core.Logic.{◌↔◌}
use mathlib.Core.Bool.{true, false}
use mathlib.Core.List.{List, []}
use native.Mathlib.Omega.{arith}
use Rattle.lists.specs.Lists.{bit}
use Rattle.lists.proofs.Tests.{by_cases}
use Rattle.dispatch.specs.declared.Record.{Record}
use Rattle.dispatch.specs.declared.call.Call.{Call}
use Rattle.dispatch.specs.declared.call.Call.TheVariants.{Release, Finish, Look}
use Rattle.dispatch.specs.Record.{fresh_of}
use Rattle.dispatch.specs.Shape.{Shaped}
use Rattle.dispatch.specs.Sound.{sound_of}
use Rattle.dispatch.specs.Refusals.{task_tests, release_refusal, finish_refusal, look_refusal}
use Rattle.dispatch.specs.Calls.{call_refusal, after}
use Rattle.dispatch.proofs.SoundFacts.{sound_facts, sound}
use Rattle.dispatch.proofs.OneCall.{release_no_lem, finish_no_lem, look_no}
use Rattle.dispatch.proofs.Always.{always_good}
use Rattle.dispatch.proofs.Never.{never_15}
use Rattle.dispatch.proofs.Started.{started}
use Rattle.demands.specs.Sound.{Sound}
use Rattle.demands.proofs.Beneath.SoundClauses.{clauses, from_clauses}

-- a record with arrays of the code's lengths passes the test of soundness exactly if every clause of document 01 holds
pub sound_exactly : (r : Record) → Shaped r → (sound_of r ≡ true) ↔ Sound r
sound_exactly r long = (λ e. clauses r long (sound_facts r e), λ x. sound r (from_clauses r long x))

-- and fails it exactly if not all of them hold
pub unsound_exactly : (r : Record) → Shaped r → (sound_of r ≡ false) ↔ (Sound r → ⊥)
unsound_exactly r long = (
  λ e x. omega (arith, ap bit (sym e ∙ (sound_exactly r long).1 x)),
  λ n. by_cases (sound_of r) (λ e. absurd (n ((sound_exactly r long).0 e))) (λ e. e),
)

-- then 15 is given, whatever the call
refused : (r : Record) (c : Call) → sound_of r ≡ false → call_refusal r c ≡ 15
unfolding task_tests release_refusal finish_refusal look_refusal
refused r (Release i t) e = release_no_lem r i t ∙ rw e
refused r (Finish i t) e = finish_no_lem r i t ∙ rw e
refused r (Look k t) e = look_no r k t ∙ rw e

-- 15 is given exactly if a record handed in is unsound
pub given_15 : (r : Record) → Shaped r → (c : Call) → (call_refusal r c ≡ 15) ↔ (Sound r → ⊥)
given_15 r long c = (
  λ e x. never_15 r [] c (record { shaped = long; sound = (sound_exactly r long).1 x }) e,
  λ n. refused r c ((unsound_exactly r long).1 n),
)

module _ (m : ℕ) (xs : List ℕ) (ok : (fresh_of m xs).refusal.no ≡ 0) (cs : List Call) where
  -- after an accepted list the record is sound over any calls
  pub reached_sound : Sound (after (fresh_of m xs).next cs)
  unfolding fresh_of
  reached_sound =
      let g = always_good (fresh_of m xs).next cs (started m xs ok) in
      (sound_exactly (after (fresh_of m xs).next cs) g.shaped).0 g.sound
