-- Any two answers that a public function's contract allows are equal.
use mathlib.Core.Path.{sym, ◌∙◌}
use Rattle.lists.specs.Settled.{Settled}
use Rattle.run_lengths.proofs.Work.with_run.Reads as WithRun
use Rattle.run_lengths.proofs.Work.without_run.Reads as WithoutRun

pub with_run_lem : Settled WithRun.Post
with_run_lem κs a x y e f p q = p ∙ sym q

pub without_run_lem : Settled WithoutRun.Post
without_run_lem κs a x y e f p q = p ∙ sym q
