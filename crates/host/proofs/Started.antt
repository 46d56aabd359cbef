-- A record started from the numbers that are held of a byte table is the one started from the table.
use Prim.Native.Nat.{ℕ}
use mathlib.Core.Path.{◌≡◌, refl, sym, ap, ◌∙◌}
use mathlib.Core.Logic.{⊎_elim}
use mathlib.Core.List.{List}
use borrow.Author.Tests.{ne_eqb}
use Rattle.units.specs.Refusals.{or_kept}
use Rattle.admission.specs.Words.{TableOut}
use Rattle.soundness.proofs.Taken.{plan_number}
use Rattle.dispatch.specs.declared.Record.{Record}
use Rattle.dispatch.specs.Record.{Fresh}
use Rattle.dispatch.specs.Record.{fresh_of}
use Rattle.host.specs.Dispatcher.{LentStart}
use Rattle.host.specs.Host.{table_in}
use Rattle.host.specs.Dispatcher.{start_or}
use Rattle.host.specs.Inner.{held_of}
use Rattle.host.proofs.Held.{held_or}
use Rattle.host.proofs.Out.{out_same, out_refused}

-- what planning of a table leaves
abbrev left : Record → Fresh → LentStart
left r a = record { refusal = a.refusal.no; next = or_kept a.refusal.no a.next r }

-- taken, and refused
module _ (r : Record) {a x : Fresh} (e : a ≡ x) where
  left_taken : a.refusal.no ≡ 0 → ◌≡◌ {A = LentStart} (record { refusal = a.refusal.no; next = a.next }) (left r x)
  left_taken z = rw (← e, z)

  left_refused : (a.refusal.no ≡ 0 → ⊥) → ◌≡◌ {A = LentStart} (record { refusal = a.refusal.no; next = r }) (left r x)
  left_refused n = rw (← e, ne_eqb a.refusal.no 0 n)

module _ (r : Record) (m : ℕ) where
  -- no table is refused by its number, and the record stays
  out_left : (xs : List ℕ) → TableOut xs → record { refusal = (fresh_of m xs).refusal.no; next = r } ≡ left r (fresh_of m xs)
  unfolding fresh_of
  out_left xs o = left_refused r {a = fresh_of m xs} refl (λ e. out_refused m xs o (sym (plan_number m xs) ∙ e))

  -- so the numbers held leave what the table does
  held_left : (bytes : List ℕ) → left r (fresh_of m (held_of bytes)) ≡ start_or r m bytes
  unfolding fresh_of start_or
  held_left bytes =
      ⊎_elim
      (λ e. ap (λ (xs : List ℕ). left r (fresh_of m xs)) e)
      (λ o.
      sym (out_left (held_of bytes) o.0)
      ∙ ap (λ (n : ℕ). record { refusal = n; next = r })
      (plan_number m (held_of bytes) ∙ out_same m (held_of bytes) (table_in bytes) o.0 o.1 ∙ sym (plan_number m (table_in bytes)))
      ∙ out_left (table_in bytes) o.1)
      (held_or bytes)

  module _ (bytes : List ℕ) {a : Fresh} (e : a ≡ fresh_of m (held_of bytes)) where
    -- a record that is started
    pub start_taken : a.refusal.no ≡ 0 → record { refusal = a.refusal.no; next = a.next } ≡ start_or r m bytes
    start_taken z = left_taken r e z ∙ held_left bytes

    -- and one that stays
    pub start_refused : (a.refusal.no ≡ 0 → ⊥) → record { refusal = a.refusal.no; next = r } ≡ start_or r m bytes
    start_refused n = left_refused r e n ∙ held_left bytes
