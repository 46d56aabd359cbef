-- No plan has many shares: one for each task, and two more for each core. Cores are counted from 0.
use Prim.Native.Nat.{ℕ, ◌+◌, ◌*◌, ◌≤◌}
use mathlib.Core.Path.{◌≡◌}
use mathlib.Core.List.{List, [], ◌∷◌, map}
use native.Mathlib.Omega.{arith}
use lib.ListN.{length, get_or}
use borrow.Author.Tests.{ltb-false}
use Rattle.lists.specs.Lists.{total, parts, bit}
use Rattle.lists.specs.Rows.{how_many, column}
use Rattle.lists.specs.Tabled.{tabled}
use Rattle.lists.proofs.Tests.{by_cases}
use Rattle.lists.proofs.Parts.{parts_placed}
use Rattle.lists.proofs.Tabled.{sum_both, sum_small}
use Rattle.task_shares.specs.Movers.{moves, moves_on}
use Rattle.assignment.specs.Structure.{Structure}
use Rattle.assignment.proofs.Properties.{kept}

-- a task that is fixed has one; one that moves is a mover on each of its cores
row_few : (m : ℕ) (row : List ℕ) → ((p : ℕ) → m ≤ p → get_or row p 0 ≡ 0) → parts row ≤ 1 + total (tabled (λ p. bit (moves_on p row)) m)
row_few m row h =
    by_cases (moves row)
    (λ e. rw e (omega (arith, parts_placed m row h)))
    (λ e. omega (arith, ltb-false 1 (parts row) e))

-- of all tasks: one each, and one more for each mover of each core
table_few : (m : ℕ) (tab : List (List ℕ)) → ((p : ℕ) → m ≤ p → column p tab ≡ 0)
    → total (map parts tab) ≤ length tab + total (tabled (λ p. how_many (moves_on p) tab) m)
table_few m [] h = omega arith
table_few m (row ∷ tab) h =
    omega (
      arith,
      row_few m row (λ p k. omega (arith, h p k)),
      table_few m tab (λ p k. omega (arith, h p k)),
      sum_both (λ p. bit (moves_on p row)) (λ p. how_many (moves_on p) tab) m,
    )

-- and no core has more than two movers
pub shares_few : {m l : ℕ} {ws : List ℕ} {tab : List (List ℕ)} → Structure m l ws tab → total (map parts tab) ≤ length tab + 2 * m
shares_few {m} {l} {ws} {tab} s =
    omega (arith, table_few m tab s.beyond, sum_small 2 (λ p. how_many (moves_on p) tab) m (λ p. (kept s p).few))
