-- `scanning::lines::first_unreadable` meets its contract.
use mathlib.Core.Path.{sym}
use native.Mathlib.Omega.{arith}
use Rattle.scanning.proofs.Sought.{first, later, here, ended, here_told, none_told}
use Rattle.scanning.proofs.lines.first_unreadable.Goals as goal

pub loop-at-init : goal.loop-at-init
loop-at-init g c = (omega arith, λ next h. first _ _ _ _)

pub returns-in_default : goal.returns-in_default
returns-in_default g c =
    λ next h. (let i = c.loop-at.invariant.1 next h in
    let z = sym (h _ _ c.in_default.ensures) in
    (sym (here _ _ _ _ _ _ i c.loop-at-test.true z), λ p. here_told _ _ _ _ _ _ i p c.loop-at-test.true z))

pub loop-at-preserved : goal.loop-at-preserved
loop-at-preserved g c =
    let a = c.requires.ahead _ _ c.in-Some.ensures in (
      omega (arith, c.loop-at.invariant.0, a),
      λ next h. later _ _ _ _ _ _ (c.loop-at.invariant.1 next h) c.loop-at-test.true (sym (h _ _ c.in-Some.ensures)) a,
    )

pub returns : goal.returns
returns g c =
    λ next h. (let i = c.loop-at.invariant.1 next h in
    (sym (ended _ _ _ _ _ _ i c.loop-at-test.false), λ p. none_told _ _ _ _ _ _ i c.loop-at-test.false))
