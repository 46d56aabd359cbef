-- What a writer did to a lent buffer.
use Rattle.std.specs.Prelude.{ℕ, ◌+◌, ◌≡◌, List, length}
use Rattle.std.proofs.lemmas.List.Edits.{sets}

-- `text` was stored from index `at` on, as far as the buffer reaches, and every other byte is as it was; `next` is the index after it
pub record Wrote (before : List ℕ) (at : ℕ) (text : List ℕ) (after : List ℕ) (next : ℕ) : Type 0 where
  pub bytes : after ≡ sets before at text
  pub end : next ≡ at + length text
