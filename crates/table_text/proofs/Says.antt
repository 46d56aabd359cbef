-- The equations of the whole text, as the code meets them.
use Rattle.std.specs.declared.result.Result.TheVariants.{Ok, Err}
use Rattle.std.specs.declared.option.Option.TheVariants.{Some, None}
use Prim.Native.Nat.{ℕ, ◌≤◌, ◌<◌}
use mathlib.Core.Path.{◌≡◌, refl}
use mathlib.Core.List.{List}
use borrow.Author.Tests.{lt-ltb, le-ltb, ne_eqb}
use lib.ListN.{length}
use lib.Seq.{sets}
use Rattle.table_text.specs.Text.{Said, says, unreadable, text_limit, cores_line, bad_task, numbers_from, table_from, after_cores, text_of, table_said, answer_of}
use Rattle.scanning.specs.Number.{Number}
use Rattle.scanning.specs.Lines.{unless_zero}
use Rattle.scanning.proofs.Sought.{told, untold}
use Rattle.table_text.specs.Text.{Reading, read}

-- the answer and the lent numbers are those of what the text says
abbrev pub Gives : Said → Reading → List ℕ → List ℕ → Type 0
Gives w r before after = (r ≡ answer_of w) × (after ≡ sets before 0 (table_said w))

-- an unreadable text names its line and changes no number
pub gives_line : {w : Said} (line : ℕ) (l : List ℕ) → w ≡ unreadable line → Gives w (Err line) l l
unfolding answer_of table_said
gives_line line l e = rw e (refl, refl)

-- a readable one gives its numbers
pub gives_table : {w : Said} (m n : ℕ) (xs before after : List ℕ) → w ≡ says m xs → n ≡ length xs → after ≡ sets before 0 xs
    → Gives w (Ok (read m n)) before after
unfolding answer_of table_said
gives_table m n xs before after e f g = rw (e, f) (refl, g)

-- what says the same gives the same
pub gives_same : {v w : Said} {r : Reading} (before : List ℕ) {after : List ℕ} → v ≡ w → Gives w r before after → Gives v r before after
gives_same before e g = rw e g

module _ (s : List ℕ) (m at : ℕ) where
  -- a table with no unreadable line
  pub table_says : None ≡ unless_zero (bad_task s at) → table_from s m at ≡ says m (numbers_from (length s) s at)
  unfolding table_from
  table_says e = rw (untold e) refl

  -- a table with one
  pub table_line : {line : ℕ} → Some line ≡ unless_zero (bad_task s at) → table_from s m at ≡ unreadable line
  unfolding table_from
  table_line {line} e = let t = told e in rw (ne_eqb (bad_task s at) 0 t.1, t.0) refl

module _ (s : List ℕ) where
  -- a text that is too long
  pub text_long : text_limit < length s → text_of s ≡ unreadable 0
  unfolding text_of
  text_long h = rw (lt-ltb text_limit (length s) h)

  -- an empty one
  pub text_empty : length s ≡ 0 → text_of s ≡ unreadable 0
  unfolding text_of
  text_empty h = rw h

  module _ (short : length s ≤ text_limit) (some : length s ≡ 0 → ⊥) where
    -- any other text is the core count's line and what follows
    text_is : (n : Number) → cores_line s ≡ n → text_of s ≡ after_cores s n
    unfolding text_of
    text_is n q = rw (le-ltb text_limit (length s) short, ne_eqb (length s) 0 some, q)

    -- the first line is unreadable
    pub text_first : cores_line s ≡ None → text_of s ≡ unreadable 1
    unfolding after_cores
    text_first q = text_is None q

    -- the first line is a core count
    pub text_table : {m at : ℕ} → cores_line s ≡ Some (m, at) → text_of s ≡ table_from s m at
    unfolding after_cores
    text_table {m} {at} q = text_is (Some (m, at)) q
