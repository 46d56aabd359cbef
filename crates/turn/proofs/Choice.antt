-- The search for the core of the next run picks an open core with the least due place, lowest core at a tie. Cores are counted from 0 here.
use Prim.Native.Nat.{ℕ, zero, suc, ◌+◌, ◌*◌, ◌≤◌, ◌<◌}
use mathlib.Core.Path.{◌≡◌, refl, ap}
use mathlib.Core.Bool.{Bool, true, false, cond, ◌&&◌, ◌||◌}
use mathlib.Core.List.{List, [], ◌∷◌}
use native.Mathlib.Numerals.{add-one}
use native.Mathlib.Omega.{arith}
use borrow.Author.Count.{below_more}
use borrow.Author.Tests.{ltb-true, ltb-false}
use lib.Dec.{ltb, eqb, eqb-suc-zero}
use lib.ListN.{length, get_or, drop}
use Rattle.units.specs.Limits.{cores_limit}
use Rattle.lists.specs.Lists.{total}
use Rattle.turn.specs.declared.Best.{Best}
use Rattle.turn.specs.Turn.{is_open, due_place, better_core, best_from, nobody, core_of}
use Rattle.turn.specs.Inner.{Turnable}
use Rattle.turn.proofs.Search.{search_next, search_end}

-- core i is open
abbrev pub OpenAt : (w t : ℕ) (ss ns : List ℕ) → ℕ → Type 0
OpenAt w t ss ns i = get_or ns i 0 * w < get_or ss i 0 * (t + 1)

-- it is not
abbrev ClosedAt : (w t : ℕ) (ss ns : List ℕ) → ℕ → Type 0
ClosedAt w t ss ns i = get_or ss i 0 * (t + 1) ≤ get_or ns i 0 * w

-- the due place of its next run
abbrev pub due_at : (w : ℕ) (ss ns : List ℕ) → ℕ → ℕ
due_at w ss ns i = due_place w (get_or ss i 0) (get_or ns i 0)

-- of k cores it is core j: open, none that is open has a smaller due place, and none below it the same
pub record Picked (w t : ℕ) (ss ns : List ℕ) (k j : ℕ) : Type 0 where
  pub within : j < k
  pub opened : OpenAt w t ss ns j
  pub least : (i : ℕ) → i < k → OpenAt w t ss ns i → due_at w ss ns j ≤ due_at w ss ns i
  pub lowest : (i : ℕ) → i < j → OpenAt w t ss ns i → due_at w ss ns j < due_at w ss ns i

-- an open core has a share
pub some_share : (x s t : ℕ) → x < s * (t + 1) → 0 < s
some_share x zero t h = omega arith
some_share x (suc s) t h = omega arith

pub open_share : (w t : ℕ) (ss ns : List ℕ) (i : ℕ) → OpenAt w t ss ns i → 0 < get_or ss i 0
open_share w t ss ns i o = some_share (get_or ns i 0 * w) (get_or ss i 0) t o

-- what the search knows after k cores: none is open, or one is chosen
abbrev Found : (w t : ℕ) (ss ns : List ℕ) → ℕ → ℕ → ℕ → Type 0
Found w t ss ns k zero d = (i : ℕ) → i < k → ClosedAt w t ss ns i
Found w t ss ns k (suc j) d = (d ≡ due_at w ss ns j) × Picked w t ss ns k j

module _ (w t : ℕ) (ss ns : List ℕ) where
  -- the next core is taken: it is open, and due before each open core so far
  taken : (k : ℕ) → OpenAt w t ss ns k → ((i : ℕ) → i < k → OpenAt w t ss ns i → due_at w ss ns k < due_at w ss ns i) → Picked w t ss ns (k + 1) k
  taken k o h = record {
    within = omega arith;
    opened = o;
    least = below_more _ k (λ i l p. omega (arith, h i l p)) (λ p. omega arith);
    lowest = h;
  }

  -- it is not: it is closed, or due no sooner than the one chosen
  kept : (k j : ℕ) → Picked w t ss ns k j → (OpenAt w t ss ns k → due_at w ss ns j ≤ due_at w ss ns k) → Picked w t ss ns (k + 1) j
  kept k j c h = record {
    within = omega (arith, c.within);
    opened = c.opened;
    least = below_more _ k c.least h;
    lowest = c.lowest;
  }

  -- and so by the two tests of the definition
  found_one : (k core d : ℕ) (o l : Bool) → is_open w t (get_or ss k 0) (get_or ns k 0) ≡ o → ltb (due_at w ss ns k) d ≡ l → Found w t ss ns k core d
      → let b : Best = cond (o && (eqb core 0 || l)) (record { core = suc k; due = due_at w ss ns k }) (record { core = core; due = d }) in
      Found w t ss ns (k + 1) b.core b.due
  found_one k zero d false l p q f = below_more _ k f (ltb-false _ _ p)
  found_one k (suc j) d false l p q f = (f.0, kept k j f.1 (λ o. absurd (omega (arith, ltb-false))))
  found_one k zero d true l p q f = (refl, taken k (ltb-true _ _ p) (λ i m o. absurd (omega (arith, f i m))))
  found_one k (suc j) d true true p q f =
      rw (eqb-suc-zero j) (refl, taken k (ltb-true _ _ p) (λ i m o. omega (arith, ltb-true, f.0, f.1.least i m o)))
  found_one k (suc j) d true false p q f = rw (eqb-suc-zero j) (f.0, kept k j f.1 (λ o. omega (arith, ltb-false, f.0)))

  -- one core more
  found_next : (k : ℕ) (b : Best) → Found w t ss ns k b.core b.due
      → let a = better_core w t b (suc k) (get_or ss k 0) (get_or ns k 0) in Found w t ss ns (suc k) a.core a.due
  found_next k b f = rw (add-one k) at (found_one k b.core b.due (is_open w t (get_or ss k 0) (get_or ns k 0)) (ltb (due_at w ss ns k) b.due) refl refl f)

  -- with m cores left to look at
  found_from : (m k : ℕ) (b : Best) → length ss ≡ k + m → length ns ≡ length ss → Found w t ss ns k b.core b.due
      → let a = best_from w t (suc k) b (drop k ss) (drop k ns) in Found w t ss ns (length ss) a.core a.due
  found_from zero k b e l f =
      let g : k ≡ length ss = omega arith in
      rw (search_end w t k b ss ns (omega arith)) (rw g at f)
  found_from (suc m) k b e l f =
      rw (search_next w t k b ss ns (omega arith) (omega arith))
      (found_from m (suc k) (better_core w t b (suc k) (get_or ss k 0) (get_or ns k 0)) (omega arith) l (found_next k b f))

-- if no core is open, too many runs were counted
closed_sum : (w k : ℕ) (ss ns : List ℕ) → length ns ≡ length ss
    → ((i : ℕ) → i < length ss → get_or ss i 0 * k ≤ get_or ns i 0 * w) → total ss * k ≤ total ns * w
closed_sum w k [] ns l h = omega arith
closed_sum w k (s ∷ ss) [] l h = absurd (omega arith)
closed_sum w k (s ∷ ss) (n ∷ ns) l h =
    omega (arith, h 0 (omega arith), closed_sum w k ss ns (omega arith) (λ i m. h (suc i) (omega arith)))

module _ (w t : ℕ) (ss ns : List ℕ) (pos : 0 < w) (shares : total ss ≡ w) (counts : total ns ≡ t) (same : length ns ≡ length ss) where
  -- some core is open: shares that sum to w and counts that sum to t leave one
  some : (core d : ℕ) → Found w t ss ns (length ss) core d → (j : ℕ) × (core ≡ suc j) × Picked w t ss ns (length ss) j
  some zero d f =
      absurd (omega (arith, closed_sum w (t + 1) ss ns same f, ap (λ (x : ℕ). x * (t + 1)) shares, ap (λ (x : ℕ). x * w) counts))
  some (suc j) d f = (j, refl, f.1)

  -- the core of the next run, counted from 0, is the chosen one
  pub choice : (j : ℕ) × (core_of w t ss ns ≡ suc j) × Picked w t ss ns (length ss) j
  unfolding core_of
  choice =
      let b = best_from w t 1 nobody ss ns in
      some b.core b.due (found_from w t ss ns (length ss) 0 nobody (omega arith) same (λ i l. absurd (omega arith)))

-- and so from what the turn step is asked of
pub turn_choice : (w t : ℕ) (ss ns : List ℕ) → Turnable w t ss ns → length ss ≡ cores_limit → length ns ≡ cores_limit
    → (j : ℕ) × (core_of w t ss ns ≡ suc j) × Picked w t ss ns cores_limit j
turn_choice w t ss ns a l m = rw l at (choice w t ss ns (omega (arith, a.below)) a.shares a.counts (omega arith))
