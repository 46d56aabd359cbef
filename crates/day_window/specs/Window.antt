-- What a writer did to a buffer that holds a part of a longer text. It stands for no rule of documents 01 and 02.
use Rattle.std.specs.Prelude.{ℕ, ◌+◌, ◌-◌, ◌≡◌, List, length, drop}
use Rattle.std.proofs.lemmas.List.Edits.{sets}

-- `text` stands from index `at` of the longer text on, and `next` is the index after it; the buffer holds what stands from index `skip` on, as far as it
-- reaches, and every other byte is as it was
pub record Windowed (before : List ℕ) (skip at : ℕ) (text : List ℕ) (after : List ℕ) (next : ℕ) : Type 0 where
  pub bytes : after ≡ sets before (at - skip) (drop (skip - at) text)
  pub end : next ≡ at + length text
