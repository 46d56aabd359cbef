-- The core with the most room is the one with the least load, and a task fits in its room if and only if it fits beside its load.
use Prim.Native.Nat.{ℕ, zero, suc, ◌+◌, ◌-◌, ◌≤◌, ◌<◌, max}
use mathlib.Core.Path.{◌≡◌, refl, sym, ap, ◌∙◌}
use mathlib.Core.Bool.{◌&&◌}
use mathlib.Core.List.{List, [], ◌∷◌}
use native.Mathlib.Omega.{arith}
use lib.Dec.{leb}
use lib.ListN.{length, get_or, set, length-map, length-set}
use borrow.Author.Tests.{leb-true, le-leb}
use Rattle.lists.specs.Lists.{most, at_most}
use Rattle.lists.proofs.Tests.{by_cases, same_bool, and_left, and_right, and_true}
use Rattle.lists.proofs.Lists.{at_most_is, at_most_lt}
use Rattle.assignment.specs.Passes.{whole, less, passes}
use Rattle.assignment.specs.Load.{room_of, none_below, at_least, by_load}

-- no load exceeds l
abbrev pub Within : ℕ → List ℕ → Type 0
Within l loads = (p : ℕ) → get_or loads p 0 ≤ l

-- a task of weight w fits in the room beside a load x
pub fits_beside : (l x w : ℕ) → x ≤ l → leb w (l - x) ≡ leb (x + w) l
fits_beside l x w h =
    same_bool (leb w (l - x)) (leb (x + w) l)
    (λ e. le-leb (x + w) l (omega (arith, leb-true w (l - x) e)))
    (λ e. le-leb w (l - x) (omega (arith, leb-true (x + w) l e)))

-- a core has the most room if and only if none has a smaller load
most_least : (l x : ℕ) (xs : List ℕ) → x ≤ l → Within l xs → leb (most (room_of l xs)) (l - x) ≡ none_below x xs
most_least l x [] h k = le-leb 0 (l - x) (omega arith)
most_least l x (y ∷ ys) h k =
    let ih = most_least l x ys h (λ p. k (suc p)) in
    same_bool (leb (max (l - y) (most (room_of l ys))) (l - x)) (leb x y && none_below x ys)
    (λ e.
    let f = leb-true (max (l - y) (most (room_of l ys))) (l - x) e in
    and_true (leb x y) (none_below x ys) (le-leb x y (omega (arith, k 0))) (sym ih ∙ le-leb (most (room_of l ys)) (l - x) (omega arith)))
    (λ e.
    let f = leb-true x y (and_left (leb x y) (none_below x ys) e) in
    let g = leb-true (most (room_of l ys)) (l - x) (ih ∙ and_right (leb x y) (none_below x ys) e) in
    le-leb (max (l - y) (most (room_of l ys))) (l - x) (omega arith))

-- the core with the most room, lowest number at a tie, is the core with the least load, lowest number at a tie
pub at_most_at_least : (l : ℕ) (loads : List ℕ) → Within l loads → at_most (room_of l loads) ≡ at_least loads
at_most_at_least l [] k = refl
at_most_at_least l (x ∷ xs) k = rw (most_least l x xs (k 0) (λ p. k (suc p)), at_most_at_least l xs (λ p. k (suc p)))

-- the room beside the load of core p
room_at : (l : ℕ) (loads : List ℕ) (p : ℕ) → p < length loads → get_or (room_of l loads) p 0 ≡ l - get_or loads p 0
room_at l [] p h = absurd (omega arith)
room_at l (x ∷ xs) zero h = refl
room_at l (x ∷ xs) (suc p) h = room_at l xs p (omega arith)

-- what a task leaves of the room is the room beside the greater load
room_less : (l : ℕ) (loads : List ℕ) (p w : ℕ) → less w p (room_of l loads) ≡ room_of l (set loads p (get_or loads p 0 + w))
room_less l [] p w = refl
room_less l (x ∷ xs) zero w = let e : l - x - w ≡ l - (x + w) = omega arith in λ i. e i ∷ room_of l xs
room_less l (x ∷ xs) (suc p) w = ap (λ (r : List ℕ). (l - x) ∷ r) (room_less l xs p w)

-- which is still at most l
set_within : (l v : ℕ) (loads : List ℕ) (p : ℕ) → v ≤ l → Within l loads → Within l (set loads p v)
set_within l v [] p h k q = k q
set_within l v (x ∷ xs) zero h k zero = h
set_within l v (x ∷ xs) zero h k (suc q) = k (suc q)
set_within l v (x ∷ xs) (suc p) h k zero = k 0
set_within l v (x ∷ xs) (suc p) h k (suc q) = set_within l v xs p h (λ r. k (suc r)) q

-- the two passes in the words of document 01 are those by room
pub by_load_lem : (l : ℕ) (ws loads : List ℕ) → 0 < length loads → Within l loads → passes ws (room_of l loads) ≡ by_load l ws loads
by_load_lem l [] loads h k = refl
by_load_lem l (w ∷ ws) loads h k =
    let p : ℕ = at_least loads in
    let x : ℕ = get_or loads p 0 in
    let at : at_most (room_of l loads) ≡ p = at_most_at_least l loads k in
    let low : p < length loads = omega
    (arith, at_most_lt (room_of l loads) (omega (arith, length-map loads (λ (y : ℕ). l - y))), length-map loads (λ (y : ℕ). l - y)) in
    let is : most (room_of l loads) ≡ l - x = sym (at_most_is (room_of l loads)) ∙ ap (λ (q : ℕ). get_or (room_of l loads) q 0) at ∙ room_at l loads p low in
    rw (is, fits_beside l x w (k p), at, length-map loads (λ (y : ℕ). l - y), room_less l loads p w)
    (by_cases (leb (x + w) l)
    (λ e. rw e (ap (λ (rs : List (List ℕ)). whole w p loads ∷ rs)
    (by_load_lem l ws (set loads p (x + w)) (omega (arith, length-set loads p (x + w))) (set_within l (x + w) loads p (leb-true (x + w) l e) k))))
    (λ e. rw e))
