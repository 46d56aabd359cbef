-- Each task's row is the one that the passes give at its place in the order.
use Prim.Native.Nat.{ℕ, zero, suc, ◌<◌}
use mathlib.Core.Path.{◌≡◌, refl, sym, ap, ◌∙◌}
use mathlib.Core.Logic.{◌≢◌}
use mathlib.Core.List.{List, [], ◌∷◌}
use native.Mathlib.Omega.{arith}
use lib.Dec.{eqb}
use lib.ListN.{length, get_or, set, length-set}
use lib.Seq.{get_or-set_same, get_or-set_other}
use borrow.Author.Tests.{eqb-true, eqb-false}
use Rattle.lists.specs.Lists.{at_most, parts}
use Rattle.lists.proofs.Tests.{by_cases}
use Rattle.lists.proofs.Lists.{at_most_is, at_most_lt, most_some, parts_most, parts_none, get_or_le_sum}
use Rattle.ordering.specs.Order.{place_of, picks, order, in_order}
use Rattle.ordering.proofs.Place.{left_other, first_place_lem, later_place}
use Rattle.ordering.proofs.Picks.{left_parts, in_order_length}
use Rattle.assignment.specs.Passes.{passes, scatter, empty_rows, shares_of}
use Rattle.assignment.proofs.Shape.{blank_length, passes_length}

-- the row of a task without a weight stays
scatter_other : (n : ℕ) (ws : List ℕ) (rs tab : List (List ℕ)) (i : ℕ) → parts ws ≡ n → get_or ws i 0 ≡ 0
    → get_or (scatter (picks n ws) rs tab) i [] ≡ get_or tab i []
scatter_other zero ws rs tab i e z = refl
scatter_other (suc n) ws [] tab i e z = refl
scatter_other (suc n) ws (r ∷ rs) tab i e z =
    let t : ℕ = at_most ws in
    let o : i ≢ t = λ q. omega (arith, ap (λ (j : ℕ). get_or ws j 0) q, at_most_is ws, parts_most ws (omega arith)) in
    scatter_other n (set ws t 0) rs (set tab t r) i (left_parts n ws e) (left_other ws i o ∙ z) ∙ get_or-set_other tab t i r [] o

-- that of a task with one is the row at its place
scatter_at : (n : ℕ) (ws : List ℕ) (rs tab : List (List ℕ)) (i : ℕ) → parts ws ≡ n → length rs ≡ n → length tab ≡ length ws → 0 < get_or ws i 0
    → get_or (scatter (picks n ws) rs tab) i [] ≡ get_or rs (place_of ws i) []
scatter_at zero ws rs tab i e n l h = absurd (omega (arith, parts_none ws e, get_or_le_sum ws i))
scatter_at (suc n) ws [] tab i e m l h = absurd (omega arith)
scatter_at (suc n) ws (r ∷ rs) tab i e m l h =
    let t : ℕ = at_most ws in
    let low : t < length ws = at_most_lt ws (most_some ws 0 (parts_most ws (omega arith))) in
    by_cases (eqb i t)
    (λ q.
    rw (eqb-true i t q, first_place_lem ws)
    (scatter_other n (set ws t 0) rs (set tab t r) t (left_parts n ws e) (get_or-set_same ws t 0 0 low)
    ∙ get_or-set_same tab t r [] (omega arith)))
    (λ q.
    let o : i ≢ t = eqb-false i t q in
    rw (later_place ws i o h)
    (scatter_at n (set ws t 0) rs (set tab t r) i (left_parts n ws e) (omega arith) (length-set tab t r ∙ l ∙ sym (length-set ws t 0))
    (omega (arith, left_other ws i o))))

-- the shares of a task with a weight
pub at_place : (ws room : List ℕ) (i : ℕ) → 0 < get_or ws i 0 → get_or (shares_of ws room) i [] ≡ get_or (passes (in_order ws) room) (place_of ws i) []
unfolding shares_of order
at_place ws room i h =
    scatter_at (parts ws) ws (passes (in_order ws) room) (empty_rows (length ws) (length room)) i refl
    (passes_length (in_order ws) room ∙ in_order_length ws) (blank_length (length ws) (length room)) h
