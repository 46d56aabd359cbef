-- `rehearse::write_pieces` meets its contract.
use native.Mathlib.Omega.{arith}
use mathlib.Core.Path.{sym}
use lib.Seq.{length-take-le}
use Rattle.std.proofs.Common.{rules}
use Rattle.rehearsal_answer.proofs.Pieces.{piece_in, piece_some}
use Rattle.rehearse.proofs.write_pieces.Goals as goal

pub slice_bounds-write_output-end : goal.slice_bounds-write_output-end
slice_bounds-write_output-end g c = omega (arith, piece_in _ _ c.piece_length-first.ensures)

pub slice_bounds-write_output-end-2 : goal.slice_bounds-write_output-end-2
slice_bounds-write_output-end-2 g c = sym (length-take-le _ _ (omega (arith, piece_in _ _ c.piece_length-first.ensures)))

pub loop-skip-init : goal.loop-skip-init
loop-skip-init g c = (omega (arith, piece_in _ _ c.piece_length-first.ensures), search rules)

pub slice_bounds-write_output-end-in-loop-skip : goal.slice_bounds-write_output-end-in-loop-skip
slice_bounds-write_output-end-in-loop-skip g c = omega (arith, piece_in _ _ c.piece_length-more.ensures)

pub slice_bounds-write_output-end-in-loop-skip-2 : goal.slice_bounds-write_output-end-in-loop-skip-2
slice_bounds-write_output-end-in-loop-skip-2 g c = sym (length-take-le _ _ (omega (arith, piece_in _ _ c.piece_length-more.ensures)))

pub overflow_add-skip : goal.overflow_add-skip
overflow_add-skip g c = omega (arith, piece_in _ _ c.piece_length-more.ensures)

pub loop-skip-smaller : goal.loop-skip-smaller
loop-skip-smaller g c = omega (arith, piece_some _ _ c.piece_length-more.ensures (search rules) (search rules))

pub loop-skip-preserved : goal.loop-skip-preserved
loop-skip-preserved g c = (omega (arith, piece_in _ _ c.piece_length-more.ensures), search rules)
