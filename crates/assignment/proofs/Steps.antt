-- Both passes over tasks that stand in order: what is left to do gives the same table, one task less.
use Prim.Native.Nat.{ℕ, zero, suc, ◌+◌, ◌-◌, ◌≤◌, ◌<◌}
use mathlib.Core.Path.{◌≡◌, refl, ap, ◌∙◌}
use mathlib.Core.List.{List, [], ◌∷◌, ◌++◌}
use native.Mathlib.Omega.{arith}
use native.Mathlib.Numerals.{add-one}
use lib.ListN.{length, get_or, take, set, drop_of_length-le}
use lib.Seq.{drop-cons, get_or-take, length-take-le}
use borrow.Author.Tests.{le-leb, lt-leb}
use Rattle.lists.specs.Lists.{zeros, most, at_most}
use Rattle.lists.proofs.Lists.{at_most_is, at_most_lt}
use Rattle.units.specs.Limits.{cores_limit}
use Rattle.units.specs.Units.{nums}
use Rattle.ordering.specs.declared.Order.{Order}
use Rattle.assignment.specs.declared.Row.{Row}
use Rattle.assignment.specs.Passes.{give, behind, onward, rows_of}
use Rattle.assignment.specs.Inner.{assign_two, assign, from, Among}

-- a row stored
pub rows_set : (rs : List Row) (t : ℕ) (r : Row) → rows_of (set rs t r) ≡ set (rows_of rs) t (nums r.shares)
rows_set [] t r = refl
rows_set (x ∷ rs) zero r = refl
rows_set (x ∷ rs) (suc t) r = ap (λ (ys : List (List ℕ)). nums x.shares ∷ ys) (rows_set rs t r)

-- the roomiest core is one of the box's
pub core_low : (room : List ℕ) (p : ℕ) → length room ≡ cores_limit → p ≡ at_most room → p < cores_limit
core_low room p l e = omega (arith, at_most_lt room (omega arith))

-- its room is the most
core_room : (room : List ℕ) (p : ℕ) → p ≡ at_most room → get_or room p 0 ≡ most room
core_room room p e = ap (λ (q : ℕ). get_or room q 0) e ∙ at_most_is room

module _ (o : Order) (a : Among o) (i : ℕ) where
  -- the order has as many tasks as it says
  tasks_long : length (take o.count o.tasks) ≡ o.count
  tasks_long = length-take-le o.count o.tasks (omega (arith, a.long, a.few))

  -- the next task, and those after it
  from_next : i < o.count → from o i ≡ get_or o.tasks i 0 ∷ from o (i + 1)
  from_next h =
      drop-cons (take o.count o.tasks) i 0 (omega (arith, tasks_long)) ∙ rw (add-one i, get_or-take o.count o.tasks i 0 h)

  -- no task is left
  from_end : o.count ≤ i → from o i ≡ []
  from_end h = drop_of_length-le (take o.count o.tasks) {i = i} (omega (arith, tasks_long))

  module _ (ws room : List ℕ) (tab : List (List ℕ)) where
    -- the next task in pass two
    pub two_next : (p t w : ℕ) → i < o.count → t ≡ get_or o.tasks i 0 → w ≡ get_or ws t 0
        → assign_two (p + behind w room) ws (from o (i + 1)) (onward w room) (set tab t (zeros p ++ give w room)) ≡ assign_two p ws (from o i) room tab
    two_next p t w h e f = rw (from_next h, f, e)

    -- no task is left for it
    pub two_end : (p : ℕ) → o.count ≤ i → assign_two p ws (from o i) room tab ≡ tab
    two_end p h = rw (from_end h)

    -- the next task in pass one: it fits on the roomiest core
    pub one_next : (t w p v : ℕ) → length room ≡ cores_limit → i < o.count → t ≡ get_or o.tasks i 0 → w ≡ get_or ws t 0 → p ≡ at_most room → w ≤ get_or room p 0
        → v ≡ get_or room p 0 - w → assign ws (from o (i + 1)) (set room p v) (set tab t (set (zeros cores_limit) p w)) ≡ assign ws (from o i) room tab
    one_next t w p v k h e f g fits d =
        rw (from_next h, ← e, ← f, le-leb w (most room) (omega (arith, core_room room p g)), k, ← g, d)

    -- it does not fit: pass two from here on
    pub misfit : (t w p : ℕ) → i < o.count → t ≡ get_or o.tasks i 0 → w ≡ get_or ws t 0 → p ≡ at_most room → get_or room p 0 < w
        → assign_two 0 ws (from o i) room tab ≡ assign ws (from o i) room tab
    misfit t w p h e f g over =
        rw (from_next h, ← e, ← f, lt-leb w (most room) (omega (arith, core_room room p g)))

    -- no task is left
    pub one_end : o.count ≤ i → assign ws (from o i) room tab ≡ tab
    one_end h = rw (from_end h)
