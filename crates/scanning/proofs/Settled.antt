-- Any two answers that a public function's contract allows are equal.
use mathlib.Core.Path.{sym, ◌∙◌}
use Rattle.lists.specs.Settled.{Settled}
use Rattle.std.specs.Prelude.{ℕ, ◌<◌, ◌≡◌, Option}
use Rattle.scanning.specs.Inner.{AnsweredBy, TellsFirst}
use Rattle.scanning.proofs.line.read_field.Reads as ReadField
use Rattle.scanning.proofs.line.read_pair.Reads as ReadPair
use Rattle.scanning.proofs.line.read_pair_by.Reads as ReadPairBy
use Rattle.scanning.proofs.word.read_word.Reads as ReadWord

pub read_field_lem : Settled ReadField.Post
read_field_lem κs a x y e f p q = p ∙ sym q

pub read_pair_lem : Settled ReadPair.Post
read_pair_lem κs a x y e f p q = p ∙ sym q

pub read_pair_by_lem : Settled ReadPairBy.Post
read_pair_by_lem κs a x y e f p q = p ∙ sym q

pub read_word : Settled ReadWord.Post
read_word κs a x y e f p q = p ∙ sym q

-- where the call that is handed in answers by one function of places, and lines are counted from 1
pub first_unreadable_lem : (allows : ℕ → Option ℕ → Type 0) (next : ℕ → ℕ) (from end start : ℕ) (x y : Option ℕ) → AnsweredBy allows next → 0 < start
    → TellsFirst allows from end start x → TellsFirst allows from end start y → x ≡ y
first_unreadable_lem allows next from end start x y h z p q = (p next h).1 z ∙ sym ((q next h).1 z)
