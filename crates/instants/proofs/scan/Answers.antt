-- `instants::scan` meets its contract.
use mathlib.Core.Path.{sym, ◌∙◌}
use native.Mathlib.Omega.{arith}
use borrow.Author.Rules.{rules}
use Rattle.front_rows.specs.Rows.{fronts_in}
use Rattle.front_rows.proofs.Rows.{fronts_at}
use Rattle.instants.proofs.Steps.{seen_more, seen_less, next_more}
use Rattle.instants.proofs.scan.Goals.{then-sees, else-sees}
use Rattle.instants.proofs.scan.Goals as goal

pub loop-i-preserved : goal.loop-i-preserved
loop-i-preserved c =
    let s = c.args in
    let fs = fronts_in s.fronts.now in
    let inv = c.loop-i.invariant in
    let own = c.front_in-front.ensures ∙ sym (fronts_at s.fronts.now c.loop-i.i (omega (arith, c.requires.0, c.loop-i-test.true))) in (
      elim c.if-sees.branch [ then-sees w ↦ rw w.seen-is (search rules) | else-sees w ↦ rw w.seen-is inv.0 ],
      elim c.if-sees.branch [
        | then-sees w ↦ w.seen-is ∙ seen_more fs s.time.0 c.loop-i.i own s.had.now inv.1 c.sees.ensures w.if-sees.true w.better.ensures
        | else-sees w ↦ w.seen-is ∙ seen_less fs s.time.0 c.loop-i.i own s.had.now inv.1 c.sees.ensures w.if-sees.false
      ],
      next_more fs s.time.0 c.loop-i.i own s.until.0 inv.2 c.ahead-next.ensures,
    )
