-- A call's answer as a line.
use Rattle.std.specs.Prelude.{ℕ, List, ◌++◌}
use Prim.Native.String.{String}
use Rattle.writing.specs.Ascii.{ascii}
use Rattle.writing.specs.Decimal.{signed_of}
use Rattle.writing.specs.Field.{field, line_end}
use Rattle.writing.specs.Refused.{refusal_text}
use Rattle.dispatch.specs.Calls.{Answer}
use Rattle.dispatch.specs.Calls.Answer.{Refused, Released, Finished, Looked}
use Rattle.core_choice.specs.declared.Side.{Side}
use Rattle.core_choice.specs.declared.Side.TheVariants.{Upper, Lower}
use Rattle.core_choice.specs.declared.Choice.{Choice}
use Rattle.core_choice.specs.declared.Choice.TheVariants.{Idle, Fixed, Mover}

-- a task and its deadline, after a word: `fixed 4 deadline 30`
abbrev pub chosen_text : String → ℕ → ℕ → List ℕ
chosen_text word i d = field word i ++ field " deadline " d

-- a mover, upper or lower there
unfoldable pub mover_text : Side → ℕ → ℕ → List ℕ
mover_text Upper i d = chosen_text "upper " i d
mover_text Lower i d = chosen_text "lower " i d

-- a core's choice: `idle`, a fixed task or a mover
unfoldable pub choice_text : Choice → List ℕ
choice_text Idle = ascii "idle"
choice_text (Fixed i d) = chosen_text "fixed " i d.0
choice_text (Mover i d side) = mover_text side i d.0

-- a call's answer: `refused 8`, `core 2 deadline 30`, `late -3`, or a core's choice
unfoldable pub answer_line : Answer → List ℕ
answer_line (Refused x) = refusal_text x
answer_line (Released p d) = field "core " p ++ field " deadline " d.0 ++ line_end
answer_line (Finished late) = ascii "late " ++ signed_of late ++ line_end
answer_line (Looked choice) = choice_text choice ++ line_end
