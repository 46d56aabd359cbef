-- What an answer says of the text, for whoever calls the reader.
use Rattle.std.specs.declared.result.Result.TheVariants.{Ok, Err}
use Prim.Native.Nat.{ℕ, ◌≤◌}
use mathlib.Core.Path.{◌≡◌, refl, sym, ap, ap₂, ◌∙◌}
use mathlib.Core.List.{List}
use native.Mathlib.Omega.{arith}
use lib.ListN.{length, take, length-take}
use lib.Seq.{sets}
use Rattle.table_text.specs.Text.{Said, says, unreadable, text_of, table_said, answer_of}
use Rattle.table_text.specs.Text.{Reading, read}
use Rattle.table_text.proofs.Count.{text_fits, table_holds}

-- a text is read or not
no_reading : {A : Type 0} {m n line : ℕ} → ◌≡◌ {A = Reading} (Ok (read m n)) (Err line) → A
no_reading e = let z : ◌≡◌ {A = ℕ} 0 1 = cc in absurd (omega arith)

-- two readings that are equal have equal parts
same_reading : {m n k l : ℕ} → ◌≡◌ {A = Reading} (Ok (read m n)) (Ok (read k l)) → (m ≡ k) × (n ≡ l)
same_reading e = (ap (λ (r : Reading). cores_of r) e, ap (λ (r : Reading). count_of r) e)
  where
    cores_of : Reading → ℕ
    cores_of (Ok t) = t.cores
    cores_of (Err line) = 0

    count_of : Reading → ℕ
    count_of (Ok t) = t.count
    count_of (Err line) = 0

said_unreadable : (w : Said) {line : ℕ} → answer_of w ≡ Err line → w ≡ unreadable line
unfolding answer_of
said_unreadable (says m xs) e = no_reading e
said_unreadable (unreadable k) {line} e = let z : k ≡ line = cc in rw z refl

said_count : (w : Said) {m n : ℕ} → answer_of w ≡ Ok (read m n) → n ≡ length (table_said w)
unfolding answer_of table_said
said_count (says k xs) e = sym (same_reading e).1
said_count (unreadable k) e = no_reading (sym e)

said_read : (w : Said) {m n : ℕ} → answer_of w ≡ Ok (read m n) → w ≡ says m (table_said w)
unfolding answer_of table_said
said_read (says k xs) e = rw (same_reading e).0 refl
said_read (unreadable k) e = no_reading (sym e)

module _ (s : List ℕ) {r : Reading} (e : r ≡ answer_of (text_of s)) where
  -- an unreadable text
  pub is_unreadable : {line : ℕ} → r ≡ Err line → text_of s ≡ unreadable line
  is_unreadable p = said_unreadable (text_of s) (sym e ∙ p)

  module _ {m n : ℕ} (p : r ≡ Ok (read m n)) where
    -- a readable one has few numbers
    pub is_few : n ≤ 2048
    is_few = omega (arith, text_fits s, said_count (text_of s) (sym e ∙ p))

    -- and they stand at the start of the lent table
    pub is_read : (before : List ℕ) {table : List ℕ} → 2048 ≤ length before → table ≡ sets before 0 (table_said (text_of s)) → text_of s ≡ says m
        (take n table)
    is_read before {table} h t =
        let z : take n table ≡ table_said (text_of s) = ap₂ (λ (k : ℕ) (l : List ℕ). take k l) (said_count (text_of s) (sym e ∙ p)) t
        ∙ table_holds s before h in
        rw z (said_read (text_of s) (sym e ∙ p))

-- a part of a table has no more numbers than were asked for
pub part_few : (n k : ℕ) (table : List ℕ) → n ≤ k → length (take n table) ≤ k
part_few n k table h = rw (length-take n table) (omega arith)

-- and as many as were asked for, where it has them
pub part_whole : (n : ℕ) (table : List ℕ) → n ≤ length table → n ≡ length (take n table)
part_whole n table h = rw (length-take n table) (omega arith)
