-- `goings::ran_by` meets its contract.
use Prim.Native.Nat.{ℕ, ◌+◌, ◌-◌, ◌<◌, ◌≤◌}
use mathlib.Core.Path.{◌≡◌, sym, ap}
use mathlib.Core.List.{List}
use native.Mathlib.Omega.{arith}
use native.Mathlib.Numerals.{add-one}
use lib.ListN.{get_or, set}
use borrow.Author.Tests.{eq-eqb, ne_eqb}
use Rattle.goings.specs.declared.Going.{Going}
use Rattle.goings.specs.Going.{no_going, ran_by}
use Rattle.goings.specs.Rows.{goings_in}
use Rattle.goings.proofs.Rows.{goings_at}
use Rattle.goings.proofs.ran_by.Goals.{then-task-gt0, else-task-gt0}
use Rattle.goings.proofs.ran_by.Goals as goal

-- task i's run, which has core n, has had m more; or no run has the core
module _ (gs : List Going) (m : ℕ) (hs : List ℕ) (n : ℕ) {xs : List ℕ} (e : xs ≡ ran_by gs m hs n) {i : ℕ} (own : i ≡ (get_or gs n no_going).task) where
  ran_more : 0 < i → set xs (i - 1) (get_or xs (i - 1) 0 + m) ≡ ran_by gs m hs (n + 1)
  unfolding ran_by
  ran_more h = rw (add-one n, ← e, ← own, ne_eqb i 0 (λ z. absurd (omega (arith, z))))

  ran_same : i ≤ 0 → xs ≡ ran_by gs m hs (n + 1)
  unfolding ran_by
  ran_same h = rw (add-one n, ← e, ← own, eq-eqb i 0 (omega arith))

pub loop-core-preserved : goal.loop-core-preserved
loop-core-preserved c =
    let s = c.args in
    let gs = goings_in s.goings.now in
    let n = c.loop-core.core in
    let own = ap (λ (g : Going). g.task) (sym (goings_at s.goings.now n (omega (arith, c.loop-core-test.true, c.requires.few)))) in
    elim c.if-task-gt0.branch [
      | then-task-gt0 w ↦ rw w.had-is (ran_more gs s.more s.had.now n c.loop-core.invariant own (omega arith))
      | else-task-gt0 w ↦ rw w.had-is (ran_same gs s.more s.had.now n c.loop-core.invariant own (omega arith))
    ]
