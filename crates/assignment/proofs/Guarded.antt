-- The rule on heavy fixed tasks in document 01's words: on a core with a mover some fixed task weighs at least as much as each mover there.
use Prim.Native.Nat.{ℕ, suc, ◌≤◌, ◌<◌}
use mathlib.Core.Path.{◌≡◌, ap}
use mathlib.Core.Logic.{◌↔◌}
use mathlib.Core.Bool.{Bool, true}
use mathlib.Core.List.{List, [], ◌∷◌}
use native.Mathlib.Omega.{arith}
use lib.Dec.{ltb, leb}
use lib.ListN.{get_or}
use borrow.Author.Tests.{ltb-true, ltb-false, leb-true, leb-false}
use Rattle.lists.specs.Lists.{total, val}
use Rattle.lists.specs.Rows.{top}
use Rattle.lists.proofs.Tests.{by_cases}
use Rattle.lists.proofs.Lists.{parts_le}
use Rattle.lists.proofs.Rows.{top_at}
use Rattle.task_shares.specs.Movers.{moves_on, fixed_on}
use Rattle.assignment.specs.Properties.{row_at, row_weight}
use Rattle.task_shares.proofs.Words.{moves_says}

-- the heaviest row that passes a test is one of them
top_has : (f : List ℕ → Bool) (tab : List (List ℕ)) → 0 < top f tab → (k : ℕ) × (f (get_or tab k []) ≡ true) × (total (get_or tab k []) ≡ top f tab)
top_has f [] h = absurd (omega arith)
top_has f (r ∷ tab) h =
    by_cases (f r)
    (λ e.
    let v : val (f r) (total r) ≡ total r = ap (λ (b : Bool). val b (total r)) e in
    by_cases (leb (top f tab) (total r))
    (λ l. (0, e, omega (arith, leb-true (top f tab) (total r) l)))
    (λ l.
    let ih = top_has f tab (omega (arith, leb-false (top f tab) (total r) l)) in
    (suc ih.0, ih.1, omega (arith, ih.2, leb-false (top f tab) (total r) l))))
    (λ e.
    let v : val (f r) (total r) ≡ 0 = ap (λ (b : Bool). val b (total r)) e in
    let ih = top_has f tab (omega arith) in
    (suc ih.0, ih.1, omega (arith, ih.2)))

-- the two say the same
pub guarded_exactly : (p : ℕ) (tab : List (List ℕ))
    → (top (moves_on p) tab ≤ top (fixed_on p) tab)
    ↔ ((i : ℕ) → moves_on p (row_at tab i) ≡ true → (k : ℕ) × (fixed_on p (row_at tab k) ≡ true) × (row_weight tab i ≤ row_weight tab k))
guarded_exactly p tab = (
  λ h i e.
      let a = top_at (moves_on p) tab i e in
      let some = moves_says p (row_at tab i) e in
      let b = top_has (fixed_on p) tab (omega (arith, parts_le (row_at tab i))) in
      (b.0, b.1, omega (arith, b.2)),
  λ g.
      by_cases (ltb 0 (top (moves_on p) tab))
      (λ e.
      let a = top_has (moves_on p) tab (ltb-true 0 (top (moves_on p) tab) e) in
      let b = g a.0 a.1 in
      omega (arith, a.2, b.2, top_at (fixed_on p) tab b.0 b.1))
      (λ e. omega (arith, ltb-false 0 (top (moves_on p) tab) e)),
)
