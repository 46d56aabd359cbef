-- One line more in front: on the cores where it is a mover it takes the place of what stood there.
use Prim.Native.Nat.{ℕ, ◌+◌, ◌<◌}
use mathlib.Core.Path.{◌≡◌, refl, sym, ap₂, ◌∙◌}
use mathlib.Core.Bool.{Bool, true, false, cond, and-false}
use mathlib.Core.List.{List}
use lib.Dec.{eqb}
use native.Mathlib.Omega.{arith}
use lib.ListN.{length, get_or, set, get_or-map}
use lib.Seq.{get_or-set_same, get_or-set_other}
use borrow.Author.Tests.{lt-ltb, eqb-true, eqb-false, eq-eqb, ne_eqb}
use Rattle.units.specs.Limits.{cores_limit}
use Rattle.units.specs.Units.{share}
use Rattle.units.proofs.Units.{nums_at}
use Rattle.lists.specs.Lists.{parts}
use Rattle.lists.proofs.Tests.{by_cases}
use Rattle.lists.proofs.Parts.{first_some}
use Rattle.lists.proofs.Filled.{Stored, store_next, store_skip}
use Rattle.task_shares.specs.Movers.{moves_on, first_core, lower}
use Rattle.assignment.proofs.Properties.{share_core}
use Rattle.planning.specs.declared.Line.{Line}
use Rattle.planning.specs.declared.Plan.{Plan}
use Rattle.planning.specs.Plan.{no_line, row_of}
use Rattle.planning.specs.Kept.{PlanKept}
use Rattle.lateness.specs.declared.movers.Mover.{Mover}
use Rattle.lateness.specs.Inner.{mover, mover_on, no_mover, InFront}

-- p cores are passed
abbrev pub Front : (ℕ → Bool) → (ℕ → Mover) → List Mover → ℕ → List Mover → Type 0
Front f g old p new = Stored no_mover cores_limit (λ q. cond (f q) (g q) (get_or old q no_mover)) old 0 p new

module _ (f : ℕ → Bool) (g : ℕ → Mover) (old : List Mover) (p : ℕ) (new : List Mover) (k : Front f g old p new) (h : p < cores_limit) where
  -- a core where it is a mover
  pub front_set : (m : Mover) → m ≡ g p → f p ≡ true → Front f g old (p + 1) (set new p m)
  front_set m i e = store_next no_mover cores_limit (λ q. cond (f q) (g q) (get_or old q no_mover)) old 0 p new m k h (i ∙ rw e)

  -- one where it is none
  pub front_skip : f p ≡ false → Front f g old (p + 1) new
  front_skip e = store_skip no_mover cores_limit (λ q. cond (f q) (g q) (get_or old q no_mover)) old 0 p new k h (rw e)

-- what the code keeps of a line is its mover
pub as_mover : (ln : Line) (p f : ℕ) → f ≡ first_core (row_of ln) → mover (get_or ln.shares p (share 0)) ln f ≡ mover_on p ln
as_mover ln p f e = ap₂ (λ (s q : ℕ). mover (share s) ln q) (sym (nums_at ln.shares p)) e

-- the first core of a line that moves is a core
pub first_there : (pl : Plan) → PlanKept pl → (i : ℕ) →
    let row = row_of (get_or pl.lines i no_line) in
    1 < parts row → first_core row < cores_limit
first_there pl k i h =
    let row : List ℕ = row_of (get_or pl.lines i no_line) in
    let r = get_or-map row_of pl.lines i no_line in
    omega (arith, share_core k.structure i (first_core row) (rw r (first_some row h)), k.cores_few)

-- it is lower there and nowhere else
pub lower_at : (row : List ℕ) (p : ℕ) → 1 < parts row → p ≡ first_core row → lower p row ≡ true
lower_at row p h e = rw (
  e,
  lt-ltb 1 (parts row) h,
  lt-ltb 0 (get_or row (first_core row) 0) (first_some row h),
  eq-eqb (first_core row)
      (first_core row) refl,
) refl

lower_off : (row : List ℕ) (p : ℕ) → (p ≡ first_core row → ⊥) → lower p row ≡ false
lower_off row p h = rw (ne_eqb (first_core row) p (λ e. h (sym e))) (and-false (moves_on p row))

-- so its place alone is taken among the lower movers
pub lower_front : (ln : Line) (ms : List Mover) (f : ℕ) (m : Mover) → 1 < parts (row_of ln) → f ≡ first_core (row_of ln) → m ≡ mover_on f ln
    → f < length ms → InFront (λ p. lower p (row_of ln)) ln ms (set ms f m)
lower_front ln ms f m h e i l p k =
    by_cases (eqb p f)
    (λ t.
    let q : p ≡ f = eqb-true p f t in
    rw (lower_at (row_of ln) p h (q ∙ e), q) (get_or-set_same ms f m no_mover l ∙ i))
    (λ t. rw (lower_off (row_of ln) p (λ q. eqb-false p f t (q ∙ sym e))) (get_or-set_other ms f p m no_mover (eqb-false p f t)))
