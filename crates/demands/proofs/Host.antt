-- The dispatcher for the host in C: what each call leaves in the record and in the numbers that are lent to it.
-- The contracts of `yagomila_start`, `yagomila_release`, `yagomila_finish`, `yagomila_look` and `yagomila_list` name these definitions.
use Prim.Native.Nat.{ℕ}
use mathlib.Core.Path.{◌≡◌, refl, sym, ◌∙◌}
use mathlib.Core.List.{List, ◌++◌}
use lib.IntN.{ℤ, pos}
use lib.ListN.{length, drop}
use borrow.Author.Tests.{ne_eqb}
use Rattle.units.specs.Units.{ticks}
use Rattle.units.specs.declared.ticks.Ticks.{Ticks}
use Rattle.core_choice.specs.declared.Told.{Told}
use Rattle.core_choice.specs.Told.{choice_kind, choice_task, choice_deadline}
use Rattle.dispatch.specs.declared.Record.{Record}
use Rattle.dispatch.specs.declared.call.Call.TheVariants.{Release, Finish, Look}
use Rattle.dispatch.specs.Record.{fresh_of}
use Rattle.dispatch.specs.Release.{release_of, release_or}
use Rattle.dispatch.specs.Finish.{finish_of, finish_or}
use Rattle.dispatch.specs.Look.{look_of, look_or}
use Rattle.dispatch.specs.Calls.{call_refusal, step}
use Rattle.listing.specs.Listing.{listing_text}
use Rattle.listing.specs.Listed.{listed_of, buffer_after}
use Rattle.host.specs.Host.{table_in, admit_of}
use Rattle.host.specs.Dispatcher.{start_or, list_or}
use Rattle.demands.proofs.Beneath.HostCalls.{release_kept, release_taken, finish_kept, finish_taken, look_kept, look_taken, start_kept, start_taken}
use Rattle.demands.proofs.Lent.{record_refused, record_listed}

-- a call on a record r that is lent; t is its time
module _ (r : Record) (i : ℕ) (t : Ticks) where
  -- accepted or refused, the record goes on as any calls' does: what the other pages say over calls holds of a record that is lent to them
  pub lent_steps : (core : ℕ) (deadline : Ticks) (late : ℤ) (told : Told)
      → ((release_or r i t.0 core deadline).next ≡ step r (Release i t))
      × ((finish_or r i t.0 late).next ≡ step r (Finish i t))
      × ((look_or r i t.0 told).next ≡ step r (Look i t))
  unfolding release_or finish_or look_or
  lent_steps core deadline late told = (refl, refl, refl)

  -- a release that is accepted leaves the record that document 01's hands on, and writes the core and the deadline that it answers
  pub lent_release : (core : ℕ) (deadline : Ticks) → call_refusal r (Release i t) ≡ 0 → release_or r i t.0 core deadline ≡ release_of r i t.0
  lent_release = release_taken r i t

  -- one that is refused by n answers n, and the record, the core and the deadline stay as they were
  pub lent_release_refused : (core : ℕ) (deadline : Ticks) (n : ℕ) → (n ≡ 0 → ⊥) → call_refusal r (Release i t) ≡ n
      → release_or r i t.0 core deadline ≡ record { refusal = n; core = core; deadline = deadline; next = r }
  lent_release_refused = release_kept r i t

  -- a finish that is accepted: so too, with the lateness
  pub lent_finish : (late : ℤ) → call_refusal r (Finish i t) ≡ 0 → finish_or r i t.0 late ≡ finish_of r i t.0
  lent_finish = finish_taken r i t

  -- and one that is refused
  pub lent_finish_refused : (late : ℤ) (n : ℕ) → (n ≡ 0 → ⊥) → call_refusal r (Finish i t) ≡ n
      → finish_or r i t.0 late ≡ record { refusal = n; late = late; next = r }
  lent_finish_refused = finish_kept r i t

  -- a look at core i that is accepted: so too, with the choice's kind, task and deadline
  pub lent_look : (told : Told) → call_refusal r (Look i t) ≡ 0 →
      let a = look_of r i t.0 in
      let c = a.choice in
      look_or r i t.0 told
      ≡ record { refusal = 0; told = record { kind = choice_kind c; task = choice_task c; deadline = ticks (choice_deadline c) }; next = a.next }
  lent_look = look_taken r i t

  -- and one that is refused
  pub lent_look_refused : (told : Told) (n : ℕ) → (n ≡ 0 → ⊥) → call_refusal r (Look i t) ≡ n
      → look_or r i t.0 told ≡ record { refusal = n; told = told; next = r }
  lent_look_refused = look_kept r i t

-- planning of a byte table on m cores into a record r that is lent, whatever it holds
module _ (r : Record) (m : ℕ) (bytes : List ℕ) where
  -- a table that is admitted leaves the fresh record of document 01's planning
  pub lent_start : admit_of m bytes ≡ 0 → start_or r m bytes ≡ record { refusal = 0; next = (fresh_of m (table_in bytes)).next }
  lent_start = start_taken r m bytes

  -- one that is refused answers the admission number, and the record stays as it was
  pub lent_start_refused : (n : ℕ) → (n ≡ 0 → ⊥) → admit_of m bytes ≡ n → start_or r m bytes ≡ record { refusal = n; next = r }
  lent_start_refused = start_kept r m bytes

-- the listing of a record r that is lent, in a lent buffer; 15 and 14 are given exactly in their cases (Lent)
module _ (r : Record) (buf : List ℕ) (len : ℤ) where
  -- a listing that is not refused stands at the buffer's start, the bytes past it stay, and its length is written
  pub lent_list : (listed_of r (length buf)).refusal.no ≡ 0
      → (list_or r buf len ≡ record { refusal = 0; len = pos (length (listing_text r.plan)) })
      × (buffer_after r buf ≡ listing_text r.plan ++ drop (length (listing_text r.plan)) buf)
  unfolding list_or
  lent_list e = let a = record_listed r buf e in (rw (e, a.0), a.1)

  -- one that is refused answers its number, and the buffer and the lent length stay as they were
  pub lent_list_refused : (n : ℕ) → (n ≡ 0 → ⊥) → (listed_of r (length buf)).refusal.no ≡ n
      → (list_or r buf len ≡ record { refusal = n; len = len }) × (buffer_after r buf ≡ buf)
  unfolding list_or
  lent_list_refused n some e = (rw (e, ne_eqb n 0 some), (record_refused r buf (λ z. some (sym e ∙ z))).1)
