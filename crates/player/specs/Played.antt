-- What the player writes: a line for each call, or the refusal of its input or of its table.
use Rattle.std.specs.Prelude.{ℕ, cond, List, [], ◌∷◌, ◌++◌, eqb, length}
use Rattle.units.specs.Refusals.{refusal, text_no}
use Rattle.writing.specs.Refused.{refusal_text}
use Rattle.dispatch.specs.declared.Record.{Record}
use Rattle.dispatch.specs.Record.{Fresh}
use Rattle.dispatch.specs.Record.{fresh_of}
use Rattle.dispatch.specs.declared.call.Call.{Call}
use Rattle.dispatch.specs.Calls.{answered_of, step}
use Rattle.table_text.specs.Text.{says}
use Rattle.calls_text.specs.Input.{InputSays, plays, unplayable, after_table, input_of, calls_from}
use Rattle.player.specs.Answers.{answer_line}

-- bytes of the answers to an input, at most
abbrev pub answers_limit : ℕ
answers_limit = 460000

-- the answers of calls, each made on the record that the one before handed on
unfoldable pub answers_text : Record → List Call → List ℕ
answers_text r [] = []
answers_text r (c ∷ cs) = answer_line (answered_of r c).answer ++ answers_text (step r c) cs

-- a table that is taken is played, another refused as by the program
unfoldable pub fresh_text : Fresh → List Call → List ℕ
fresh_text f cs = cond (eqb f.refusal.no 0) (answers_text f.next cs) (refusal_text f.refusal)

-- what an input says, answered
unfoldable pub given_text : List ℕ → InputSays → List ℕ
given_text s (plays m xs at) = fresh_text (fresh_of m xs) (calls_from (length s) s at)
given_text s (unplayable line) = refusal_text (refusal text_no line)

-- a table that can be read, whose text ends at a place, and what follows it, answered
abbrev pub table_played : List ℕ → ℕ → ℕ → List ℕ → List ℕ
table_played s p m xs = given_text s (after_table s p (says m xs))

-- what the player writes: 16 comes first, then planning's refusals
unfoldable pub play_text : List ℕ → List ℕ
play_text s = given_text s (input_of s)
