-- Any two answers that a public function's contract allows are equal, and each number of the table.
use mathlib.Core.Path.{sym, ◌∙◌}
use Rattle.lists.specs.Settled.{SettledLent}
use Rattle.table_text.proofs.read_text.Reads as ReadText

pub read_text_lem : SettledLent (λ κs e. e.1.0.now) ReadText.Post
read_text_lem κs a x y e f p q = (p.0 ∙ sym q.0, p.1 ∙ sym q.1)
