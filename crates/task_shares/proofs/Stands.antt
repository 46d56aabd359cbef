-- How a task stands on a core says what the tests on its row say.
use Prim.Native.Nat.{ℕ, ◌≤◌, ◌<◌}
use mathlib.Core.Path.{◌≡◌, refl, sym, ap, ◌∙◌}
use mathlib.Core.Bool.{Bool, true, false, cond, not, ◌&&◌, and-false}
use mathlib.Core.List.{List}
use native.Mathlib.Omega.{arith}
use lib.Dec.{ltb, eqb}
use lib.ListN.{get_or}
use borrow.Author.Tests.{ltb-true, ltb-false, lt-ltb, le-ltb, eq-eqb, ne_eqb}
use Rattle.units.specs.declared.share.Share.{Share}
use Rattle.units.specs.Units.{share, nums}
use Rattle.units.proofs.Units.{nums_at}
use Rattle.lists.specs.Lists.{parts, bit}
use Rattle.lists.proofs.Tests.{by_cases}
use Rattle.lists.proofs.Parts.{parts_split}
use Rattle.task_shares.specs.declared.standing.Standing.{Standing}
use Rattle.task_shares.specs.declared.standing.Standing.TheVariants.{Absent, Fixed, Lower, Upper}
use Rattle.task_shares.specs.Movers.{has, fixed, moves, first_core, fixed_on, moves_on, lower, upper}
use Rattle.task_shares.specs.Standing.{standing_by, standing_on}

-- the tests by the standing
abbrev pub is_upper : Standing → Bool
is_upper Absent = false
is_upper Fixed = false
is_upper Lower = false
is_upper Upper = true

abbrev pub is_lower : Standing → Bool
is_lower Absent = false
is_lower Fixed = false
is_lower Lower = true
is_lower Upper = false

abbrev pub is_fixed : Standing → Bool
is_fixed Absent = false
is_fixed Fixed = true
is_fixed Lower = false
is_fixed Upper = false

abbrev pub is_mover : Standing → Bool
is_mover Absent = false
is_mover Fixed = false
is_mover Lower = true
is_mover Upper = true

-- the table of a task that moves or not (m), has a share there or not (h), and its first core there or not (f)
abbrev table : Bool → Bool → Bool → Standing
table m h f = cond h (cond m (cond f Lower Upper) Fixed) Absent

-- mover, upper, lower and fixed by it
table_says : (m h f : Bool)
    → ((m && h) ≡ is_mover (table m h f)) × (((m && h) && not f) ≡ is_upper (table m h f))
    × (((m && h) && f) ≡ is_lower (table m h f)) × ((not m && h) ≡ is_fixed (table m h f))
table_says true true true = (refl, refl, refl, refl)
table_says true true false = (refl, refl, refl, refl)
table_says true false f = (refl, refl, refl, refl)
table_says false true f = (refl, refl, refl, refl)
table_says false false f = (refl, refl, refl, refl)

-- of one or more, one is no more than one
not_more : (n : ℕ) → 0 < n → eqb n 1 ≡ not (ltb 1 n)
not_more n h =
    by_cases (ltb 1 n)
    (λ e. rw e (ne_eqb n 1 (λ t. absurd (omega (arith, ltb-true 1 n e)))))
    (λ e. rw e (eq-eqb n 1 (omega (arith, ltb-false 1 n e))))

module _ (p : ℕ) (row : List ℕ) where
  pub moves_stands : moves_on p row ≡ is_mover (standing_on p row)
  moves_stands = (table_says (moves row) (has p row) (eqb (first_core row) p)).0

  pub upper_stands : upper p row ≡ is_upper (standing_on p row)
  upper_stands = (table_says (moves row) (has p row) (eqb (first_core row) p)).1

  pub lower_stands : lower p row ≡ is_lower (standing_on p row)
  lower_stands = (table_says (moves row) (has p row) (eqb (first_core row) p)).2

  -- with a share and no more than one it is fixed
  only_one : fixed_on p row ≡ (not (moves row) && has p row)
  only_one =
      by_cases (has p row)
      (λ e. ap (λ (b : Bool). b && has p row) (not_more (parts row) (omega (arith, parts_split row p, ap bit e))))
      (λ e. rw e (and-false (fixed row) ∙ sym (and-false (not (moves row)))))

  pub fixed_stands : fixed_on p row ≡ is_fixed (standing_on p row)
  fixed_stands = only_one ∙ (table_says (moves row) (has p row) (eqb (first_core row) p)).3

-- what the code finds by a row's numbers
pub found : (ss : List Share) (p f : ℕ) (m : Bool) → m ≡ moves (nums ss) → f ≡ first_core (nums ss)
    → standing_by m (get_or ss p (share 0)).0 f p ≡ standing_on p (nums ss)
found ss p f m e g = rw (e, g, nums_at ss p)

-- how a task with share s on core p and the first core f stands there
module _ (m : Bool) (s f p : ℕ) where
  -- one that has none
  pub is_absent : s ≤ 0 → Absent ≡ standing_by m s f p
  is_absent h = rw (le-ltb 0 s h)

  -- one that does not move
  pub is_fixed_lem : 0 < s → m ≡ false → Fixed ≡ standing_by m s f p
  is_fixed_lem h e = rw (lt-ltb 0 s h, e)

  -- one that moves, on its first core
  pub is_lower_lem : 0 < s → m ≡ true → f ≡ p → Lower ≡ standing_by m s f p
  is_lower_lem h e k = rw (lt-ltb 0 s h, e, eq-eqb f p k)

  -- and on another
  pub is_upper_lem : 0 < s → m ≡ true → (f ≡ p → ⊥) → Upper ≡ standing_by m s f p
  is_upper_lem h e k = rw (lt-ltb 0 s h, e, ne_eqb f p k)

-- a match that leaves the upper movers to another arm
pub but_upper : (s : Standing) → (s ≡ Upper → ⊥) → is_upper s ≡ false
but_upper Absent h = refl
but_upper Fixed h = refl
but_upper Lower h = refl
but_upper Upper h = absurd (h refl)
