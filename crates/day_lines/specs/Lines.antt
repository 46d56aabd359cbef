-- What a rehearsal says, document 02, R-6, a line each. Cores, tasks, runs and arrivals are counted from 1.
use Rattle.std.specs.Prelude.{ℕ, List, [], ◌∷◌, ◌++◌, ℤ}
use Prim.Native.String.{String}
use Rattle.writing.specs.Ascii.{ascii}
use Rattle.writing.specs.Decimal.{decimal_of, signed_of}
use Rattle.writing.specs.Field.{field, line_end}
use Rattle.day_lines.specs.declared.Ran.{Ran}
use Rattle.day_lines.specs.declared.Event.{Event}
use Rattle.day_lines.specs.declared.Event.TheVariants.{Finished, Refused, Spanned, Stopped, Unfinished}

-- a run on a core, after a word: `core 1 task 3 run 1`
abbrev pub ran_after : List ℕ → Ran → List ℕ
ran_after word x = (word ++ decimal_of x.core) ++ field " task " x.task ++ field " run " x.run

-- the same, the word as text
abbrev pub ran_text : String → Ran → List ℕ
ran_text word x = ran_after (ascii word) x

-- a finish: `finish core 1 task 3 run 1 at 2 late -1`
unfoldable pub finish_text : Ran → ℕ → ℤ → List ℕ
finish_text x t late = ran_text "finish core " x ++ field " at " t ++ ascii " late " ++ signed_of late ++ line_end

-- a refused arrival: `refused 10 arrival 9 task 1 at 0`
unfoldable pub refused_text : ℕ → ℕ → ℕ → ℕ → List ℕ
refused_text n a i t = field "refused " n ++ field " arrival " a ++ field " task " i ++ field " at " t ++ line_end

-- a span: `span core 1 task 3 run 1 from 0 to 2`
unfoldable pub span_text : Ran → ℕ → ℕ → List ℕ
span_text x a b = ran_text "span core " x ++ field " from " a ++ field " to " b ++ line_end

-- the stop: `stop 4`
unfoldable pub stop_text : ℕ → List ℕ
stop_text t = field "stop " t ++ line_end

-- the first half of an unfinished run's line: `unfinished task 1 run 3 core 1 deadline 6`
abbrev pub left_text : Ran → ℕ → List ℕ
left_text x d = field "unfinished task " x.task ++ field " run " x.run ++ field " core " x.core ++ field " deadline " d

-- an unfinished run: `unfinished task 1 run 3 core 1 deadline 6 had 0 of 1`
unfoldable pub unfinished_text : Ran → ℕ → ℕ → ℕ → List ℕ
unfinished_text x d had n = left_text x d ++ field " had " had ++ field " of " n ++ line_end

-- an event's line
unfoldable pub event_text : Event → List ℕ
event_text (Finished x t late) = finish_text x t.0 late
event_text (Refused n a i t) = refused_text n a i t.0
event_text (Spanned x a b) = span_text x a.0 b.0
event_text (Stopped t) = stop_text t.0
event_text (Unfinished x d had n) = unfinished_text x d.0 had n

-- the lines of events, in order
abbrev pub events_text : List Event → List ℕ
events_text [] = []
events_text (e ∷ es) = event_text e ++ events_text es
