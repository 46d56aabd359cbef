-- What a release, a finish and a look leave in what the host lends, of a call that is taken and of one that is refused.
use Prim.Native.Nat.{ℕ}
use mathlib.Core.Path.{◌≡◌, refl, ap}
use lib.IntN.{ℤ}
use borrow.Author.Tests.{ne_eqb}
use Rattle.units.specs.Refusals.{number}
use Rattle.units.specs.declared.refusal.Reason.{Reason}
use Rattle.units.specs.declared.ticks.Ticks.{Ticks}
use Rattle.units.proofs.Refusals.{refuses}
use Rattle.core_choice.specs.declared.Told.{Told}
use Rattle.core_choice.specs.declared.Choice.TheVariants.{Idle}
use Rattle.core_choice.specs.Told.{told_of}
use Rattle.dispatch.specs.declared.Record.{Record}
use Rattle.dispatch.specs.Release.{Released, refuse_release, release_of, release_or}
use Rattle.dispatch.specs.Finish.{Finished, refuse_finish, finish_of, finish_or}
use Rattle.dispatch.specs.Look.{LookedTold, look_of, look_or}

module _ (r : Record) (i t : ℕ) {next : Record} where
  -- a release
  pub release_taken : (core : ℕ) (deadline : Ticks) {k : ℕ} {d : Ticks}
      → ◌≡◌ {A = Released} (record { refusal = 0; core = k; deadline = d; next = next }) (release_of r i t)
      → ◌≡◌ {A = Released} (record { refusal = 0; core = k; deadline = d; next = next }) (release_or r i t core deadline)
  unfolding release_or
  release_taken core deadline e = rw (← e) refl

  pub release_refused : (core : ℕ) (deadline : Ticks) (e : Reason) → refuse_release (number e) next ≡ release_of r i t
      → ◌≡◌ {A = Released} (record { refusal = number e; core = core; deadline = deadline; next = next }) (release_or r i t core deadline)
  unfolding release_or refuse_release
  release_refused core deadline e h = rw (← h, ne_eqb (number e) 0 (refuses e)) refl

  -- a finish
  pub finish_taken : (late : ℤ) {z : ℤ} → ◌≡◌ {A = Finished} (record { refusal = 0; late = z; next = next }) (finish_of r i t)
      → ◌≡◌ {A = Finished} (record { refusal = 0; late = z; next = next }) (finish_or r i t late)
  unfolding finish_or
  finish_taken late e = rw (← e) refl

  pub finish_refused : (late : ℤ) (e : Reason) → refuse_finish (number e) next ≡ finish_of r i t
      → ◌≡◌ {A = Finished} (record { refusal = number e; late = late; next = next }) (finish_or r i t late)
  unfolding finish_or refuse_finish
  finish_refused late e h = rw (← h, ne_eqb (number e) 0 (refuses e)) refl

  -- a look
  pub look_taken : (told : Told) {x : Told} → ◌≡◌ {A = LookedTold} (record { refusal = 0; told = x; next = next }) (look_or r i t (told_of Idle))
      → ◌≡◌ {A = LookedTold} (record { refusal = 0; told = x; next = next }) (look_or r i t told)
  unfolding look_or
  look_taken told {x} e =
      let z : 0 ≡ (look_of r i t).refusal = ap (λ (a : LookedTold). a.refusal) e in
      let n : next ≡ (look_of r i t).next = ap (λ (a : LookedTold). a.next) e in
      let v : x ≡ told_of (look_of r i t).choice = rw (← z) at (ap (λ (a : LookedTold). a.told) e) in
      rw (← z, ← n, ← v) refl

  pub look_refused : (told : Told) (e : Reason)
      → ◌≡◌ {A = LookedTold} (record { refusal = number e; told = told_of Idle; next = next }) (look_or r i t (told_of Idle))
      → ◌≡◌ {A = LookedTold} (record { refusal = number e; told = told; next = next }) (look_or r i t told)
  unfolding look_or
  look_refused told e h =
      let z : number e ≡ (look_of r i t).refusal = ap (λ (a : LookedTold). a.refusal) h in
      let n : next ≡ (look_of r i t).next = ap (λ (a : LookedTold). a.next) h in
      rw (← z, ← n, ne_eqb (number e) 0 (refuses e)) refl
