-- `admission::refusals::task_test` meets its contract: 4 where 3 does not apply. The other answers are found.
use Prim.Native.Nat.{ℕ, ◌≤◌, ◌<◌}
use mathlib.Core.Path.{◌≡◌}
use native.Mathlib.Omega.{arith}
use borrow.Author.Tests.{lt-ltb, le-ltb, ne_eqb}
use Rattle.units.specs.Limits.{period_limit}
use Rattle.units.specs.Refusals.{refusal, cost_no}
use Rattle.admission.specs.Refusals.{task_test}
use Rattle.admission.proofs.refusals.task_test.Goals as goal

costly : (i c t : ℕ) → 0 < c → 0 < t → t ≤ period_limit → t < c → refusal cost_no i ≡ task_test i c t
costly i c t p q r h = rw (ne_eqb c 0 (λ e. omega arith), ne_eqb t 0 (λ e. omega arith), le-ltb period_limit t r, lt-ltb t c h)

pub returns-then-period-cost : goal.returns-then-period-cost
returns-then-period-cost c =
    let s = c.args in
    costly s.i s.cost s.period (omega arith) (omega arith) (omega arith) c.if-period-cost.true
