-- `writing::put_text` meets its contract: all of the text at once, or byte by byte.
use native.Mathlib.Omega.{arith}
use Rattle.writing.proofs.Wrote.{copied, byte_more}
use Rattle.writing.proofs.put_text.Goals as goal

pub returns-then-end-buf : goal.returns-then-end-buf
returns-then-end-buf c = copied c.args.text.now c.copy_from_slice.ensures.after (omega arith) c.if-end-buf.true

pub loop-b-preserved : goal.loop-b-preserved
loop-b-preserved c = byte_more c.args.text.now _ c.loop-b-test.true c.loop-b.invariant c.put_byte-next.ensures
