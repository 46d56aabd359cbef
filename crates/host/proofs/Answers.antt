-- The answers of the host's calls, from planning's and the listing's.
use Prim.Native.Nat.{ℕ, zero, suc}
use mathlib.Core.Path.{◌≡◌, refl, sym, ap, ◌∙◌}
use mathlib.Core.Logic.{⊎_elim}
use mathlib.Core.List.{List}
use native.Mathlib.Omega.{arith}
use lib.IntN.{pos, negsuc, sub_ℕ}
use borrow.Author.Tests.{lt-ltb, eq-eqb, ne_eqb}
use Rattle.admission.specs.Admission.{plan_refusal, admission_of}
use Rattle.admission.specs.Admission.{Admission}
use Rattle.admission.proofs.Answers.{says_refusal}
use Rattle.listing.specs.Listed.{Listed}
use Rattle.listing.specs.Listed.{table_listed, table_after}
use Rattle.host.specs.Host.{table_in, admit_of, negative, answered, host_listed, host_after}
use Rattle.host.specs.Inner.{held_of}
use Rattle.admission.specs.Words.{TableOut}
use Rattle.host.proofs.Held.{held_or}
use Rattle.host.proofs.Out.{out_same, out_refused}

-- what the code subtracts from 0
pub from_zero : (n : ℕ) → sub_ℕ 0 n ≡ negative n
from_zero zero = refl
from_zero (suc n) = rw (lt-ltb 0 (suc n) (omega arith)) (ap negsuc (omega arith))

-- a refusal is answered negative
pub answered_no : (l : Listed) → (l.refusal.no ≡ 0 → ⊥) → negative l.refusal.no ≡ answered l
unfolding answered
answered_no l n = rw (ne_eqb l.refusal.no 0 n)

-- none gives the length
pub answered_length : (l : Listed) → l.refusal.no ≡ 0 → pos l.length ≡ answered l
unfolding answered
answered_length l e = rw (eq-eqb l.refusal.no 0 e)

-- no table is answered by its refusal
out_listed : (m : ℕ) (xs : List ℕ) → TableOut xs → (room : ℕ) → answered (table_listed m xs room) ≡ negative (plan_refusal m xs).no
unfolding answered table_listed
out_listed m xs o room = let z = ne_eqb (plan_refusal m xs).no 0 (out_refused m xs o) in rw (z, z)

-- and changes no byte
out_after : (m : ℕ) (xs : List ℕ) → TableOut xs → (buf : List ℕ) → table_after m xs buf ≡ buf
unfolding table_after
out_after m xs o buf = rw (ne_eqb (plan_refusal m xs).no 0 (out_refused m xs o))

module _ (m : ℕ) (bytes : List ℕ) where
  -- the numbers held are refused as the table is
  held_number : (plan_refusal m (held_of bytes)).no ≡ admit_of m bytes
  unfolding admit_of
  held_number =
      ⊎_elim
      (λ e. ap (λ (xs : List ℕ). (plan_refusal m xs).no) e)
      (λ o. out_same m (held_of bytes) (table_in bytes) o.0 o.1)
      (held_or bytes)

  -- admission's number
  pub admitted : (a : Admission) → a ≡ admission_of m (held_of bytes) → a.refusal.no ≡ admit_of m bytes
  admitted a e = ap (λ (x : Admission). x.refusal.no) e ∙ says_refusal m (held_of bytes) ∙ held_number

  -- what is listed of them is what is listed of the table
  pub listed_same : (room : ℕ) → answered (table_listed m (held_of bytes) room) ≡ host_listed m bytes room
  unfolding host_listed
  listed_same room =
      ⊎_elim
      (λ e. ap (λ (xs : List ℕ). answered (table_listed m xs room)) e)
      (λ o.
      out_listed m (held_of bytes) o.0 room
      ∙ ap negative (out_same m (held_of bytes) (table_in bytes) o.0 o.1)
      ∙ sym (out_listed m (table_in bytes) o.1 room))
      (held_or bytes)

  -- and so is the buffer after it
  pub after_same : (buf : List ℕ) → table_after m (held_of bytes) buf ≡ host_after m bytes buf
  unfolding host_after
  after_same buf =
      ⊎_elim
      (λ e. ap (λ (xs : List ℕ). table_after m xs buf) e)
      (λ o. out_after m (held_of bytes) o.0 buf ∙ sym (out_after m (table_in bytes) o.1 buf))
      (held_or bytes)
