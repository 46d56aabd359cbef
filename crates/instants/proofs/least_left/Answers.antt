-- `instants::least_left` meets its contract.
use Prim.Native.Nat.{ℕ, ◌+◌, ◌<◌, ◌≤◌, min}
use mathlib.Core.Path.{◌≡◌}
use mathlib.Core.List.{List}
use native.Mathlib.Omega.{arith}
use native.Mathlib.Numerals.{add-one}
use lib.Dec.{ltb}
use lib.ListN.{get_or}
use lib.Seq.{get_or-take}
use borrow.Author.Rules.{rules}
use borrow.Author.Tests.{lt-ltb, le-ltb, ltb-true, ltb-false}
use Rattle.lists.proofs.Tests.{by_cases}
use Rattle.instants.specs.declared.Seen.{Seen}
use Rattle.instants.specs.Seen.{idle, least_left}
use Rattle.instants.proofs.least_left.Goals.{then-one-gt0, else-one-gt0}
use Rattle.instants.proofs.least_left.Goals as goal

-- a choice of the first n may have less left to run
module _ (ss : List Seen) (v n : ℕ) {s : Seen} (own : s ≡ get_or ss n idle) {x y : ℕ} (e : x ≡ least_left ss v n) where
  least_some : 0 < s.task → y ≡ min x s.left → y ≡ least_left ss v (n + 1)
  unfolding least_left
  least_some h q =
      rw (add-one n, ← own, ← e, lt-ltb 0 s.task h)
      (by_cases (ltb s.left x) (λ t. rw t (omega (arith, ltb-true s.left x t))) (λ t. rw t (omega (arith, ltb-false s.left x t))))

  least_none : s.task ≤ 0 → y ≡ x → y ≡ least_left ss v (n + 1)
  unfolding least_left
  least_none h q = rw (add-one n, ← own, ← e, le-ltb 0 s.task h) q

pub loop-one-preserved : goal.loop-one-preserved
loop-one-preserved c =
    let s = c.args in
    let n = c.loop-one.one-index in
    let own = get_or-take s.cores s.seen n idle (search rules) in
    elim c.if-one-gt0.branch [
      | then-one-gt0 w ↦ least_some s.seen s.most n own c.loop-one.invariant (omega arith) (omega arith)
      | else-one-gt0 w ↦ least_none s.seen s.most n own c.loop-one.invariant (omega arith) (omega arith)
    ]
