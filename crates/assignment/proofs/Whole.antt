-- Pass one: a task given wholly to one core.
use Prim.Native.Nat.{ℕ, zero, suc, ◌+◌, ◌-◌, ◌≤◌, ◌<◌}
use mathlib.Core.Path.{◌≡◌, sym}
use mathlib.Core.Logic.{⊎_elim}
use mathlib.Core.Bool.{true, false}
use mathlib.Core.List.{List, [], ◌∷◌}
use native.Mathlib.Omega.{arith}
use lib.Dec.{ltb}
use lib.ListN.{length, get_or, length-set, length-replicate}
use lib.Seq.{get_or-set_same, get_or-set_other}
use borrow.Author.Tests.{lt-ltb, le-ltb, eq-eqb}
use Rattle.lists.specs.Lists.{zeros, total, parts, val}
use Rattle.lists.proofs.Tests.{bit_cases, and_true}
use Rattle.lists.proofs.Lists.{get_or_le_sum, zeros_at, zeros_sum, zeros_parts, parts_cons, parts_some}
use Rattle.assignment.specs.Passes.{whole, less}
use Rattle.task_shares.specs.Movers.{has, fixed, fixed_on, moves_on}

-- its share is its weight
pub whole_sum : (w q : ℕ) (room : List ℕ) → q < length room → total (whole w q room) ≡ w
whole_sum w q [] h = absurd (omega arith)
whole_sum w zero (r ∷ room) h = omega (arith, zeros_sum (length room))
whole_sum w (suc q) (r ∷ room) h = omega (arith, whole_sum w q room (omega arith))

-- no more, wherever it was put
pub whole_sum_le : (w q : ℕ) (room : List ℕ) → total (whole w q room) ≤ w
whole_sum_le w q [] = omega arith
whole_sum_le w zero (r ∷ room) = omega (arith, zeros_sum (length room))
whole_sum_le w (suc q) (r ∷ room) = omega (arith, whole_sum_le w q room)

-- it has no more than one share
pub whole_parts : (w q : ℕ) (room : List ℕ) → parts (whole w q room) ≤ 1
whole_parts w q [] = omega arith
whole_parts w zero (r ∷ room) =
    let e = parts_cons w (zeros (length room)) in
    let z = zeros_parts (length room) in
    ⊎_elim (λ h. omega arith) (λ h. omega arith) (bit_cases (ltb 0 w))
whole_parts w (suc q) (r ∷ room) = whole_parts w q room

-- so it does not move
pub whole_stays : (p w q : ℕ) (room : List ℕ) → moves_on p (whole w q room) ≡ false
whole_stays p w q room = rw (le-ltb 1 (parts (whole w q room)) (whole_parts w q room))

-- nothing of it counts as a mover's
pub whole_moves : (p w q : ℕ) (room : List ℕ) → val (moves_on p (whole w q room)) (total (whole w q room)) ≡ 0
whole_moves p w q room = rw (whole_stays p w q room)

-- it is fixed where it was put
whole_fixed : (p w : ℕ) (room : List ℕ) → p < length room → 0 < w → fixed_on p (whole w p room) ≡ true
whole_fixed p w room h k =
    let r : List ℕ = whole w p room in
    let s : total r ≡ w = whole_sum w p room h in
    let g : get_or r p 0 ≡ w = get_or-set_same (zeros (length room)) p w 0 (omega (arith, length-replicate {A = ℕ} (length room) 0)) in
    and_true (fixed r) (has p r)
    (eq-eqb (parts r) 1 (omega (arith, whole_parts w p room, parts_some r (omega arith))))
    (lt-ltb 0 (get_or r p 0) (omega arith))

-- and there its weight counts as a fixed task's
pub whole_weighs : (p w q : ℕ) (room : List ℕ) → q ≡ p → p < length room → 0 < w
    → val (fixed_on p (whole w q room)) (total (whole w q room)) ≡ w
whole_weighs p w q room e h k = rw (e, whole_fixed p w room h k) (whole_sum w p room h)

-- the other cores have what they had
pub less_other : (p w q : ℕ) (room : List ℕ) → (q ≡ p → ⊥) → get_or (less w q room) p 0 ≡ get_or room p 0
less_other p w q room n = get_or-set_other room q p (get_or room q 0 - w) 0 (λ e. n (sym e))

pub less_length : (w q : ℕ) (room : List ℕ) → length (less w q room) ≡ length room
less_length w q room = length-set room q (get_or room q 0 - w)

-- taken and left are no more than there was, on each core
pub whole_less : (p w q : ℕ) (room : List ℕ) → w ≤ get_or room q 0
    → get_or (whole w q room) p 0 + get_or (less w q room) p 0 ≤ get_or room p 0
whole_less p w q [] h = omega arith
whole_less zero w zero (r ∷ room) h = omega arith
whole_less (suc p) w zero (r ∷ room) h = omega (arith, zeros_at (length room) p)
whole_less zero w (suc q) (r ∷ room) h = omega arith
whole_less (suc p) w (suc q) (r ∷ room) h = whole_less p w q room h

-- on all together they are what there was
pub less_sum : (w q : ℕ) (room : List ℕ) → w ≤ get_or room q 0 → total (less w q room) ≡ total room - w
less_sum w q [] h = omega arith
less_sum w zero (r ∷ room) h = omega arith
less_sum w (suc q) (r ∷ room) h = omega (arith, less_sum w q room h, get_or_le_sum room q)
