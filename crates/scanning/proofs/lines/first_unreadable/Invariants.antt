-- `scanning::lines::first_unreadable` meets its contract.
use Prim.Native.Nat.{ℕ, ◌+◌, ◌≤◌, ◌-◌}
use Rattle.scanning.specs.Inner.{AnsweredBy}
use Rattle.scanning.proofs.Sought.{Sought}
use Rattle.scanning.proofs.lines.first_unreadable.Given as goal

abbrev pub invariant-loop-at : goal.invariant-loop-at
invariant-loop-at g l =
    (l.line ≤ l.at + l.start)
    × ((next : ℕ → ℕ) → AnsweredBy (λ at r. goal.F-post g l.read at r) next → Sought next l.end l.start l.from l.line l.at)

abbrev pub decreases-loop-at : goal.decreases-loop-at
decreases-loop-at g l = l.end - l.at
