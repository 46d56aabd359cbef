-- Rows put at their tasks: what is joined over the table is what is joined over the rows in order.
use Prim.Native.Nat.{ℕ, zero, suc, ◌+◌, ◌≤◌, ◌<◌, max}
use mathlib.Core.Path.{◌≡◌, refl, sym, ap, ◌∙◌}
use mathlib.Core.List.{List, [], ◌∷◌, map}
use native.Mathlib.Omega.{arith}
use native.Mathlib.Nat.{add_assoc, add_left_comm, zero-add, add-zero, zero-max, max-zero}
use lib.Dec.{eqb}
use lib.ListN.{length, get_or, set, length-set, length-map, get_or-map}
use lib.Seq.{get_or-set_same, get_or-set_other, ext_get_or}
use borrow.Author.Tests.{eqb-true, eqb-false}
use Rattle.lists.specs.Lists.{zeros, total, most, at_most, parts}
use Rattle.lists.specs.Rows.{fold}
use Rattle.lists.proofs.Tests.{by_cases}
use Rattle.lists.proofs.Lists.{get_or_le_sum, at_most_is, zeros_sum, parts_none}
use Rattle.ordering.specs.Order.{picks, picked_weights, order, in_order}
use Rattle.assignment.specs.Passes.{passes, scatter, empty_rows, shares_of}
use Rattle.assignment.proofs.Passes.{passes_sums}
use Rattle.assignment.proofs.Shape.{blank_length, passes_length, shares_length}
use Rattle.assignment.proofs.Picks.{left, picked, weights_length, order_sum}

-- a task that has its weight left has a row that counts for nothing
abbrev Bare : (List ℕ → ℕ) → List ℕ → List (List ℕ) → Type 0
Bare g ws tab = (i : ℕ) → 0 < get_or ws i 0 → g (get_or tab i []) ≡ 0

-- and so has one after a pick
still : (g : List ℕ → ℕ) (ws r : List ℕ) (tab : List (List ℕ)) → at_most ws < length ws → Bare g ws tab
    → Bare g (left ws) (set tab (at_most ws) r)
still g ws r tab lt b i h =
    let t : ℕ = at_most ws in
    by_cases (eqb i t)
    (λ q. absurd (omega (arith, ap (λ (j : ℕ). get_or (left ws) j 0) (eqb-true i t q), get_or-set_same ws t 0 0 lt)))
    (λ q.
    let n = eqb-false i t q in
    ap g (get_or-set_other tab t i r [] n) ∙ b i (omega (arith, get_or-set_other ws t i 0 0 n)))

-- a row of the empty table counts for nothing
blank_at : (g : List ℕ → ℕ) (m n : ℕ) → g (zeros m) ≡ 0 → g [] ≡ 0 → (i : ℕ) → g (get_or (empty_rows n m) i []) ≡ 0
unfolding empty_rows
blank_at g m zero z z' i = z'
blank_at g m (suc n) z z' zero = z
blank_at g m (suc n) z z' (suc i) = blank_at g m n z z' i

module _ (op : ℕ → ℕ → ℕ) (assoc : (a b c : ℕ) → op (op a b) c ≡ op a (op b c)) (swap : (a b c : ℕ) → op a (op b c) ≡ op b (op a c))
    (unit : (a : ℕ) → op 0 a ≡ a) (unit' : (a : ℕ) → op a 0 ≡ a) (g : List ℕ → ℕ) where
  -- a row put where one counted for nothing
  fold_set : (tab : List (List ℕ)) (i : ℕ) (r : List ℕ) → i < length tab → g (get_or tab i []) ≡ 0
      → fold op g (set tab i r) ≡ op (g r) (fold op g tab)
  fold_set [] i r h z = absurd (omega arith)
  fold_set (t ∷ tab) zero r h z = sym (ap (λ (a : ℕ). op (g r) (op a (fold op g tab))) z ∙ ap (op (g r)) (unit (fold op g tab)))
  fold_set (t ∷ tab) (suc i) r h z = ap (op (g t)) (fold_set tab i r (omega arith) z) ∙ swap (g t) (g r) (fold op g tab)

  -- all rows put at the tasks picked
  fold_scatter : (k : ℕ) (ws : List ℕ) (rs tab : List (List ℕ)) → parts ws ≡ k → length rs ≡ k → length tab ≡ length ws → Bare g ws tab
      → fold op g (scatter (picks k ws) rs tab) ≡ op (fold op g rs) (fold op g tab)
  fold_scatter zero ws [] tab e n l b = sym (unit (fold op g tab))
  fold_scatter zero ws (r ∷ rs) tab e n l b = absurd (omega arith)
  fold_scatter (suc k) ws [] tab e n l b = absurd (omega arith)
  fold_scatter (suc k) ws (r ∷ rs) tab e n l b =
      let t : ℕ = at_most ws in
      let c = picked k ws e in
      fold_scatter k (left ws) rs (set tab t r) c.fewer (omega arith) (length-set tab t r ∙ l ∙ sym (length-set ws t 0))
      (still g ws r tab c.there b)
      ∙ ap (op (fold op g rs)) (fold_set tab t r (omega arith) (b t (omega (arith, at_most_is ws))))
      ∙ swap (fold op g rs) (g r) (fold op g tab)
      ∙ sym (assoc (g r) (fold op g rs) (fold op g tab))

  -- nor does the whole of it
  blank_fold : (m n : ℕ) → g (zeros m) ≡ 0 → fold op g (empty_rows n m) ≡ 0
  unfolding empty_rows
  blank_fold m zero z = refl
  blank_fold m (suc n) z = ap (λ (a : ℕ). op a (fold op g (empty_rows n m))) z ∙ unit (fold op g (empty_rows n m)) ∙ blank_fold m n z

  -- the table
  fold_shares : (ws room : List ℕ) → g (zeros (length room)) ≡ 0 → g [] ≡ 0
      → fold op g (shares_of ws room) ≡ fold op g (passes (in_order ws) room)
  unfolding shares_of order in_order
  fold_shares ws room z z' =
      let k : ℕ = parts ws in
      let rs : List (List ℕ) = passes (picked_weights k ws) room in
      fold_scatter k ws rs (empty_rows (length ws) (length room)) refl (passes_length (picked_weights k ws) room ∙ weights_length k ws)
      (blank_length (length ws) (length room)) (λ i h. blank_at g (length room) (length ws) z z' i)
      ∙ ap (op (fold op g rs)) (blank_fold (length room) (length ws) z)
      ∙ unit' (fold op g rs)

-- its sums
pub sum_shares : (g : List ℕ → ℕ) (ws room : List ℕ) → g (zeros (length room)) ≡ 0 → g [] ≡ 0
    → fold ◌+◌ g (shares_of ws room) ≡ fold ◌+◌ g (passes (in_order ws) room)
sum_shares g = fold_shares ◌+◌ add_assoc add_left_comm zero-add add-zero g

-- and its maxima
pub max_shares : (g : List ℕ → ℕ) (ws room : List ℕ) → g (zeros (length room)) ≡ 0 → g [] ≡ 0
    → fold max g (shares_of ws room) ≡ fold max g (passes (in_order ws) room)
max_shares g = fold_shares max (λ a b c. omega arith) (λ a b c. omega arith) zero-max max-zero g

-- the row of a task that is picked sums to its weight
scatter_sums : (k : ℕ) (ws : List ℕ) (rs tab : List (List ℕ)) → parts ws ≡ k → map total rs ≡ picked_weights k ws → length tab ≡ length ws → Bare total ws tab
    → (i : ℕ) → total (get_or (scatter (picks k ws) rs tab) i []) ≡ get_or ws i 0 + total (get_or tab i [])
scatter_sums zero ws rs tab e n l b i = omega (arith, parts_none ws e, get_or_le_sum ws i)
scatter_sums (suc k) ws [] tab e n l b i = cc
scatter_sums (suc k) ws (r ∷ rs) tab e n l b i =
    let t : ℕ = at_most ws in
    let c = picked k ws e in
    let s : total r ≡ most ws = cc in
    let n' : map total rs ≡ picked_weights k (left ws) = cc in
    let ih = scatter_sums k (left ws) rs (set tab t r) c.fewer n' (length-set tab t r ∙ l ∙ sym (length-set ws t 0)) (still total ws r tab c.there b) i in
    by_cases (eqb i t)
    (λ q.
    let same : i ≡ t = eqb-true i t q in
    let w : get_or ws i 0 ≡ most ws = ap (λ (j : ℕ). get_or ws j 0) same ∙ at_most_is ws in
    omega (
      arith,
      c.some,
      b i (omega (arith, c.some)),
      ap (λ (j : ℕ). get_or (left ws) j 0) same ∙ get_or-set_same ws t 0 0 c.there,
      ap (λ (j : ℕ). total (get_or (set tab t r) j [])) same ∙ ap total (get_or-set_same tab t r [] (omega (arith, c.there))),
    ))
    (λ q.
    let other = eqb-false i t q in
    omega (arith, get_or-set_other ws t i 0 0 other, ap total (get_or-set_other tab t i r [] other)))

-- each row sums to its task's weight, where there is room for all
pub shares_sums : (ws room : List ℕ) → 0 < length room → total ws ≤ total room → map total (shares_of ws room) ≡ ws
unfolding shares_of order in_order
shares_sums ws room h k =
    let tab : List (List ℕ) = empty_rows (length ws) (length room) in
    let bare : (i : ℕ) → total (get_or tab i []) ≡ 0 = blank_at total (length room) (length ws) (zeros_sum (length room)) refl in
    ext_get_or 0 (map total (shares_of ws room)) ws (length-map (shares_of ws room) total ∙ shares_length ws room)
    (λ i q.
    get_or-map total (shares_of ws room) i []
    ∙ scatter_sums (parts ws) ws (passes (in_order ws) room) tab refl (passes_sums (in_order ws) room h (omega (arith, order_sum ws)))
    (blank_length (length ws) (length room)) (λ j p. bare j) i
    ∙ omega (arith, bare i))
