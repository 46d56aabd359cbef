-- `unfinished_runs::put_run` meets its contract.
use Prim.Native.Nat.{ℕ}
use mathlib.Core.Path.{◌≡◌, ◌∙◌}
use mathlib.Core.Bool.{cond}
use native.Mathlib.Omega.{arith}
use lib.Dec.{eqb}
use borrow.Author.Tests.{eq-eqb, ne_eqb}
use Rattle.unfinished_runs.proofs.put_run.Goals.{then-k-eq0, else-k-eq0}
use Rattle.unfinished_runs.proofs.put_run.Goals as goal

-- the ticks had are those of the oldest run
module _ (k had : ℕ) where
  oldest : k ≡ 0 → had ≡ cond (eqb k 0) had 0
  oldest h = rw (eq-eqb k 0 h)

  younger : (k ≡ 0 → ⊥) → 0 ≡ cond (eqb k 0) had 0
  younger h = rw (ne_eqb k 0 h)

pub returns-clause-windowed : goal.returns-clause-windowed
returns-clause-windowed c =
    let s = c.args in
    let e : c.if-k-eq0.ticks ≡ cond (eqb s.k 0) s.had 0 = elim c.if-k-eq0.branch [
      | then-k-eq0 w ↦ w.ticks-is ∙ oldest s.k s.had (omega arith)
      | else-k-eq0 w ↦ w.ticks-is ∙ younger s.k s.had (λ z. omega arith)
    ] in
    rw (← e) c.put_within.ensures.windowed
