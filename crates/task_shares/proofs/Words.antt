-- What the tests on a row of shares say: fixed and moving, upper and lower.
use Prim.Native.Nat.{ℕ, suc, ◌<◌}
use mathlib.Core.Path.{◌≡◌, refl, sym, ap}
use mathlib.Core.Bool.{Bool, true, false, not, ◌&&◌}
use mathlib.Core.List.{List}
use native.Mathlib.Omega.{arith}
use lib.Dec.{ltb, eqb}
use lib.ListN.{get_or, take, drop}
use borrow.Author.Tests.{ltb-true, ltb-false, lt-ltb, eqb-true, eqb-false, eq-eqb, ne_eqb}
use Rattle.lists.specs.Lists.{total, parts, bit}
use Rattle.lists.proofs.Tests.{by_cases, and_left, and_right, and_true, same_bool}
use Rattle.lists.proofs.Lists.{parts_le, parts_some}
use Rattle.lists.proofs.Parts.{parts_split, parts_one, first_le, first_below, first_is}
use Rattle.task_shares.specs.Movers.{has, fixed, moves, first_core, fixed_on, moves_on, lower, upper}

not_true : (b : Bool) → not b ≡ true → b ≡ false
not_true true e = sym e
not_true false e = refl

-- a task reaches into core p: it has a share there, and one below it
abbrev pub reaches_in : ℕ → List ℕ → Bool
reaches_in p r = has p r && ltb 0 (total (take p r))

-- a task reaches out of core p: it has a share there, none below it and one above it
abbrev pub reaches_out : ℕ → List ℕ → Bool
reaches_out p r = has p r && (eqb (total (take p r)) 0 && ltb 0 (total (drop (suc p) r)))

module _ (p : ℕ) (r : List ℕ) where
  -- a share on the core
  has_says : has p r ≡ true → 0 < get_or r p 0
  has_says e = ltb-true 0 (get_or r p 0) e

  -- a fixed task's share is its weight
  pub fixed_says : fixed_on p r ≡ true → total r ≡ get_or r p 0
  fixed_says e =
      parts_one r p (eqb-true (parts r) 1 (and_left (fixed r) (has p r) e)) (has_says (and_right (fixed r) (has p r) e))

  -- a mover has more than one share, and one on the core
  pub moves_says : moves_on p r ≡ true → (1 < parts r) × (0 < get_or r p 0)
  moves_says e = (ltb-true 1 (parts r) (and_left (moves r) (has p r) e), has_says (and_right (moves r) (has p r) e))

  -- and conversely
  moves_is : 1 < parts r → 0 < get_or r p 0 → moves_on p r ≡ true
  moves_is h k = and_true (moves r) (has p r) (lt-ltb 1 (parts r) h) (lt-ltb 0 (get_or r p 0) k)

  -- upper and lower movers are movers
  pub upper_moves : upper p r ≡ true → moves_on p r ≡ true
  upper_moves e = and_left (moves_on p r) (not (eqb (first_core r) p)) e

  pub lower_moves : lower p r ≡ true → moves_on p r ≡ true
  lower_moves e = and_left (moves_on p r) (eqb (first_core r) p) e

  -- an upper one has another first core
  upper_not_first : upper p r ≡ true → first_core r ≡ p → ⊥
  upper_not_first e =
      let b = eqb (first_core r) p in
      eqb-false (first_core r) p (not_true b (and_right (moves_on p r) (not b) e))

  -- so it has a share below the core
  pub upper_says : upper p r ≡ true → (0 < get_or r p 0) × (0 < total (take p r))
  upper_says e =
      let m = moves_says (upper_moves e) in
      by_cases (ltb 0 (total (take p r)))
      (λ t. (m.1, ltb-true 0 (total (take p r)) t))
      (λ t. absurd (upper_not_first e (first_is r p m.1 (omega (arith, ltb-false 0 (total (take p r)) t)))))

  -- and its first core is below
  pub upper_first : upper p r ≡ true → first_core r < p
  upper_first e =
      let h = first_le r p (moves_says (upper_moves e)).1 in
      by_cases (ltb (first_core r) p)
      (λ t. ltb-true (first_core r) p t)
      (λ t. absurd (upper_not_first e (omega (arith, ltb-false (first_core r) p t))))

  -- a lower mover has none below it and one above it
  pub lower_says : lower p r ≡ true → (0 < get_or r p 0) × (total (take p r) ≡ 0) × (0 < total (drop (suc p) r))
  lower_says e =
      let m = moves_says (lower_moves e) in
      let f : first_core r ≡ p = eqb-true (first_core r) p (and_right (moves_on p r) (eqb (first_core r) p) e) in
      let z : total (take p r) ≡ 0 = rw f at (first_below r) in
      let b : bit (has p r) ≡ 1 = ap bit (lt-ltb 0 (get_or r p 0) m.1) in
      (m.1, z, omega (arith, parts_split r p, parts_le (take p r), parts_le (drop (suc p) r)))

  -- so a mover is upper where it reaches in
  pub upper_sums : upper p r ≡ reaches_in p r
  upper_sums =
      same_bool (upper p r) (reaches_in p r)
      (λ e. and_true (has p r) (ltb 0 (total (take p r))) (lt-ltb 0 (get_or r p 0) (upper_says e).0) (lt-ltb 0 (total (take p r)) (upper_says e).1))
      (λ e.
      let h = and_left (has p r) (ltb 0 (total (take p r))) e in
      let t = ltb-true 0 (total (take p r)) (and_right (has p r) (ltb 0 (total (take p r))) e) in
      and_true (moves_on p r) (not (eqb (first_core r) p))
      (moves_is (omega (arith, parts_split r p, parts_some (take p r) t, ap bit h)) (has_says h))
      (ap not (ne_eqb (first_core r) p (λ f. let z : total (take p r) ≡ 0 = rw f at (first_below r) in absurd (omega arith)))))

  -- and lower where it reaches out
  pub lower_sums : lower p r ≡ reaches_out p r
  lower_sums =
      let a = eqb (total (take p r)) 0 in
      let b = ltb 0 (total (drop (suc p) r)) in
      same_bool (lower p r) (reaches_out p r)
      (λ e.
      let s = lower_says e in
      and_true (has p r) (a && b) (lt-ltb 0 (get_or r p 0) s.0)
      (and_true a b (eq-eqb (total (take p r)) 0 s.1) (lt-ltb 0 (total (drop (suc p) r)) s.2)))
      (λ e.
      let h = and_left (has p r) (a && b) e in
      let z = eqb-true (total (take p r)) 0 (and_left a b (and_right (has p r) (a && b) e)) in
      let t = ltb-true 0 (total (drop (suc p) r)) (and_right a b (and_right (has p r) (a && b) e)) in
      and_true (moves_on p r) (eqb (first_core r) p)
      (moves_is (omega (arith, parts_split r p, parts_some (drop (suc p) r) t, ap bit h)) (has_says h))
      (eq-eqb (first_core r) p (first_is r p (has_says h) z)))
