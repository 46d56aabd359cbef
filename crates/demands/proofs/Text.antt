-- The program's text, document 01, "Listing and text": what a text says, or the line that is named.
use Prim.Native.Nat.{ℕ, ◌+◌, ◌*◌, ◌%◌, ◌≤◌, ◌<◌}
use mathlib.Core.Path.{◌≡◌, refl, sym, ap, ◌∙◌}
use mathlib.Core.Logic.{◌↔◌, ◌⊎◌}
use mathlib.Core.List.{List, ◌++◌}
use lib.ListN.{length, get_or}
use Rattle.writing.specs.Ascii.{blank, newline}
use Rattle.writing.specs.Decimal.{decimal_of}
use Rattle.writing.specs.Value.{value_of, Plain}
use Rattle.writing.proofs.Back.{value_back}
use Rattle.writing.proofs.Plain.{decimal_plain, plain_back}
use Rattle.table_text.specs.Text.{Said, says, unreadable, text_of}
use Rattle.table_text.specs.Grammar.{cores_written, tasks_written, Starts, NoCores, NoTask, Says}
use Rattle.table_text.proofs.EveryText.{said_exactly}
use Rattle.demands.proofs.Beneath.TextForms.{says_table_lem, names_0, names_1, names_later}

-- a blank and a newline as bytes
pub bytes : (blank ≡ 32) × (newline ≡ 10)
bytes = (refl, refl)

-- a number in decimal has no leading zero and says the number, and no other such text does
pub decimal_only : (n : ℕ) → Plain (decimal_of n) × (value_of (decimal_of n) ≡ n) × ((s : List ℕ) → Plain s → value_of s ≡ n → s ≡ decimal_of n)
decimal_only n = (decimal_plain n, value_back n, λ s p e. sym (plain_back p) ∙ ap decimal_of e)

module _ (s : List ℕ) where
  -- what is read is what the text says by its form: a core count and a table, or the first line that is not of the form
  pub text_exactly : (x : Said) → (text_of s ≡ x) ↔ Says s x
  text_exactly = said_exactly s

  -- a core count and a table are said exactly if the text is their lines, of whole tasks, each number below 2^32, at most 4,096 bytes
  pub table_exactly : (m : ℕ) (xs : List ℕ) → (text_of s ≡ says m xs) ↔ (
      (s ≡ cores_written m ++ tasks_written xs)
      × (m < 4294967296)
      × (length xs % 2 ≡ 0)
      × ((i : ℕ) → i < length xs → get_or xs i 0 < 4294967296)
      × (length s ≤ 4096))
  table_exactly = says_table_lem s

  -- line 0 is named exactly if the text is empty or too long
  pub line_0_exactly : (text_of s ≡ unreadable 0) ↔ ((length s ≡ 0) ⊎ (4096 < length s))
  line_0_exactly = names_0 s

  -- line 1 exactly if it is neither and does not start with the line of a core count
  pub line_1_exactly : (text_of s ≡ unreadable 1) ↔ ((0 < length s) × (length s ≤ 4096) × NoCores s)
  line_1_exactly = names_1 s

  -- line k + 2 exactly if it is not too long and the lines of a core count and of k tasks are followed by more that does not start with the line of a task
  pub line_later_exactly : (k : ℕ) → (text_of s ≡ unreadable (k + 2)) ↔ (
      (length s ≤ 4096)
      × ((m : ℕ) × (xs : List ℕ) × (rest : List ℕ) × Starts s m xs rest × (length xs ≡ 2 * k) × (0 < length rest) × NoTask rest))
  line_later_exactly = names_later s
