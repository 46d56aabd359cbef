-- A table's numbers as the code holds them.
use Prim.Native.Nat.{ℕ, ◌*◌, ◌-◌, ◌/◌, ◌%◌, ◌≤◌}
use mathlib.Core.Path.{◌≡◌, refl, sym}
use mathlib.Core.Bool.{Bool, true, false, not}
use mathlib.Core.Logic.{◌⊎◌, inl, inr}
use mathlib.Core.List.{List}
use native.Mathlib.Omega.{arith}
use lib.Dec.{eqb}
use lib.ListN.{length, take}
use lib.Seq.{take-append_seam}
use borrow.Author.Tests.{eqb-true}
use Rattle.units.specs.Limits.{tasks_limit}
use Rattle.lists.specs.Lists.{zeros}
use Rattle.lists.proofs.Tests.{by_cases, or_false_left, or_false_right}
use Rattle.admission.specs.Words.{TableOut}
use Rattle.little_endian.specs.Number.{numbers_of}
use Rattle.admission.specs.Refusals.{no_table}
use Rattle.admission.proofs.InWords.{no_table_lem, table_few}
use Rattle.host.specs.Host.{table_in}
use Rattle.host.specs.Inner.{filled, unread, held_of, held_table}
use Rattle.host.specs.declared.bytes.Table.{Table}
use Rattle.host.proofs.Numbers.{numbers_length}

-- of a table that is none no number is held
pub none_held : (bytes : List ℕ) → unread bytes ≡ true → record { numbers = zeros (2 * tasks_limit); count = 0 } ≡ held_table bytes
unfolding held_table held_of
none_held bytes e = rw e

-- else there is room for all
pub room : (bytes : List ℕ) → unread bytes ≡ false → length bytes ≤ 8 * tasks_limit
room bytes e =
    let four = or_false_left (not (eqb (length bytes % 4) 0)) (no_table (length bytes / 4)) e in
    let few = table_few (length bytes / 4) (or_false_right (not (eqb (length bytes % 4) 0)) (no_table (length bytes / 4)) e) in
    omega (arith, few, eqb-true (length bytes % 4) 0 (not_not (eqb (length bytes % 4) 0) four))
  where
    not_not : (b : Bool) → not b ≡ false → b ≡ true
    not_not true e = refl
    not_not false e = sym e

-- and all are held
pub all_held : (bytes : List ℕ) → unread bytes ≡ false → (xs : List ℕ) → xs ≡ filled (numbers_of bytes)
    → record { numbers = xs; count = length bytes / 4 } ≡ held_table bytes
unfolding held_table held_of
all_held bytes e xs f = rw (e, f, numbers_length bytes)

-- no more than there is room for
held_few : (bytes : List ℕ) → length (held_of bytes) ≤ 2 * tasks_limit
unfolding held_of
held_few bytes = by_cases (unread bytes) (λ e. rw e (omega arith)) (λ e. rw e (omega (arith, numbers_length bytes, room bytes e)))

-- the part of the array that is handed to planning lies in it
pub part_within : (bytes : List ℕ) (t : Table) → t ≡ held_table bytes → t.count ≤ 2 * tasks_limit
unfolding held_table
part_within bytes t e = rw e (held_few bytes)

-- and is the numbers held
pub part : (bytes : List ℕ) (t : Table) → t ≡ held_table bytes → take t.count t.numbers ≡ held_of bytes
unfolding held_table
part bytes t e = rw e (take-append_seam (held_of bytes) (zeros (2 * tasks_limit - length (held_of bytes))))

-- they are the table's numbers, or planning refuses both by the same test
pub held_or : (bytes : List ℕ) → (held_of bytes ≡ table_in bytes) ⊎ (TableOut (held_of bytes) × TableOut (table_in bytes))
unfolding held_of table_in
held_or bytes =
    by_cases (eqb (length bytes % 4) 0)
    (λ e. by_cases (no_table (length bytes / 4))
    (λ h. inr (rw (e, h) (inl refl), rw e (no_table_lem (numbers_of bytes) (rw (numbers_length bytes) h))))
    (λ h. inl (rw (e, h))))
    (λ e. inl (rw e))
