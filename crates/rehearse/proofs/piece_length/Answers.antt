-- `rehearse::piece_length` meets its contract.
use Prim.Native.Nat.{ℕ, ◌<◌, ◌≤◌, min}
use mathlib.Core.Path.{◌≡◌, ◌∙◌}
use mathlib.Core.Logic.{◌⊎◌, inl, inr}
use native.Mathlib.Omega.{arith}
use Rattle.std.proofs.Math.Nat.{min-eq_left, min-eq_right}
use Rattle.std.proofs.lemmas.Bool.{cases_lt}
use Rattle.rehearsal_answer.specs.Inner.{piece_length}
use Rattle.rehearsal_answer.proofs.Pieces.{piece_left, piece_full}
use Rattle.rehearse.proofs.piece_length.Goals as goal

-- the less of the two is what the laws on pieces speak of
least : (left room : ℕ) → (left < room) ⊎ (room ≤ left) → min left room ≡ piece_length left room
least left room (inl h) = min-eq_left (omega (arith, h)) ∙ piece_left left room h
least left room (inr h) = min-eq_right h ∙ piece_full left room h

pub returns : goal.returns
returns c = let s = c.args in c.min.ensures ∙ least s.left s.room (cases_lt s.left s.room)
