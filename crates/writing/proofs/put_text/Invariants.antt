-- `writing::put_text` meets its contract: all of the text, or its first bytes in a loop.
use Rattle.std.proofs.Common.{take}
use Rattle.writing.specs.Wrote.{Wrote}
use Rattle.writing.proofs.put_text.Given as goal

abbrev pub invariant-loop-b : goal.invariant-loop-b
invariant-loop-b l = Wrote l.initial.buf l.at (take l.b-index l.text) l.buf l.next
