-- `player::played::play_calls` meets its contract.
use native.Mathlib.Omega.{arith}
use mathlib.Core.Path.{sym}
use Rattle.writing.proofs.Wrote.{kept}
use Rattle.calls_text.proofs.Lines.{line_reach, line_inside}
use Rattle.player.proofs.Plays.{begun, ended, onward}
use borrow.Author.Rules.{rules}
use Rattle.player.proofs.played.play_calls.Goals as goal

pub loop-call-init : goal.loop-call-init
loop-call-init c = begun _ _ _ _

pub loop-call-smaller : goal.loop-call-smaller
loop-call-smaller c =
    let e = sym c.in-Some.ensures in omega (arith, line_reach _ _ e, line_inside _ _ e)

pub loop-call-preserved : goal.loop-call-preserved
loop-call-preserved c =
    let p = c.put_answer-end.ensures in
    onward c.loop-call.invariant (search rules) c.in-Some.ensures c.call-answered.ensures p.wrote p.upper_bound

pub shape_of-buf : goal.shape_of-buf
shape_of-buf c = kept c.loop-call.invariant.wrote

pub returns-clause-wrote : goal.returns-clause-wrote
returns-clause-wrote c =
    ended c.loop-call.invariant c.in_default.ensures

pub returns-clause-upper_bound : goal.returns-clause-upper_bound
returns-clause-upper_bound c =
    c.loop-call.invariant.short
