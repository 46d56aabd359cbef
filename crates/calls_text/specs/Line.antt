-- A call's line: `release TASK TIME`, `finish TASK TIME` or `look CORE TIME`.
use Rattle.std.specs.Prelude.{ℕ, List, Option, Some, None}
use Rattle.units.specs.declared.ticks.Ticks.{Ticks}
use Rattle.units.specs.Units.{ticks}
use Rattle.writing.specs.Ascii.{ascii}
use Rattle.scanning.specs.Line.{pair_at}
use Rattle.scanning.specs.Word.{word_at}
use Rattle.scanning.specs.Line.{Pair}
use Rattle.scanning.specs.Word.{Word}
use Rattle.dispatch.specs.declared.call.Call.{Call}
use Rattle.dispatch.specs.declared.call.Call.TheVariants.{Release, Finish, Look}

-- a call and the place after its line, if it can be read
abbrev pub CallLine : Type 0
CallLine = Option (Call × ℕ)

-- 10^15, which each number is below: 1 to 15 digits
abbrev pub call_bound : ℕ
call_bound = 1000000000000000

-- the two numbers of a call, after its word
abbrev pub numbers_at : List ℕ → ℕ → Pair
numbers_at s at = pair_at call_bound s at

-- the call that they make, and the place after its line
unfoldable pub as_call : (ℕ → Ticks → Call) → Pair → CallLine
as_call call (Some (i, t, next)) = Some (call i (ticks t), next)
as_call call None = None

-- a call's word and its numbers, or else another line
unfoldable pub call_or : (ℕ → Ticks → Call) → List ℕ → CallLine → Word → CallLine
call_or call s other (Some next) = as_call call (numbers_at s next)
call_or call s other None = other

-- a look, or no call
unfoldable pub look_line : List ℕ → ℕ → CallLine
look_line s at = call_or Look s None (word_at (ascii "look ") s at)

-- a finish, or else one of those
unfoldable pub finish_line : List ℕ → ℕ → CallLine
finish_line s at = call_or Finish s (look_line s at) (word_at (ascii "finish ") s at)

-- the call's line at a place: a release, or else one of those
unfoldable pub call_line : List ℕ → ℕ → CallLine
call_line s at = call_or Release s (finish_line s at) (word_at (ascii "release ") s at)

-- the place after it, and 0 where it cannot be read
unfoldable pub line_after : CallLine → ℕ
line_after (Some (c, next)) = next
line_after None = 0
