-- Document 01's formulas, for each task of a plan that keeps what a plan has to keep.
use Prim.Native.Nat.{ℕ, zero, suc, ◌≤◌, ◌<◌}
use mathlib.Core.Path.{◌≡◌, refl, sym, ap, ◌∙◌}
use mathlib.Core.Logic.{◌⊎◌, inl, inr, ⊎_elim}
use mathlib.Core.Bool.{Bool, true}
use mathlib.Core.List.{List, [], ◌∷◌, map}
use native.Mathlib.Omega.{arith}
use lib.Dec.{ltb}
use lib.ListN.{length, get_or, get_or-append, get_or-map}
use lib.Seq.{get_or_at}
use borrow.Author.Tests.{ltb-true, ltb-false}
use lib.IntN.{sub_ℕ}
use Rattle.units.specs.Limits.{cores_limit}
use Rattle.lists.specs.Lists.{parts, seek}
use Rattle.lists.specs.Rows.{how_many}
use Rattle.lists.proofs.Tests.{by_cases}
use Rattle.task_shares.specs.Movers.{moves, first_core, upper, lower}
use Rattle.task_shares.proofs.Words.{upper_first}
use Rattle.assignment.proofs.Properties.{lower_found}
use Rattle.planning.specs.declared.Line.{Line}
use Rattle.planning.specs.declared.Plan.{Plan}
use Rattle.planning.specs.Plan.{empty_line, no_line, row_of, shares_table}
use Rattle.planning.specs.Kept.{PlanKept}
use Rattle.lateness.specs.Lateness.{first, upper_on, lower_on, reach_of, reach_on, reaches, late, plan_reaches}
use Rattle.lateness.proofs.Front.{first_there, lower_at}
use Rattle.lateness.proofs.Reached.{reaches_length}
use Rattle.lateness.proofs.Words.{reach_alone}

module _ (f : List ℕ → Bool) where
  -- the first line that passes a test passes it, or there is none
  first_cases : (lns : List Line) → (f (row_of (first (λ ln. f (row_of ln)) lns)) ≡ true) ⊎ (first (λ ln. f (row_of ln)) lns ≡ empty_line)
  first_cases [] = inr refl
  first_cases (ln ∷ lns) = by_cases (f (row_of ln)) (λ e. rw e (inl e)) (λ e. rw e (first_cases lns))

  -- if no line does there is none
  first_none : (lns : List Line) → how_many f (map row_of lns) ≡ 0 → first (λ ln. f (row_of ln)) lns ≡ empty_line
  first_none [] e = refl
  first_none (ln ∷ lns) e =
      by_cases (f (row_of ln))
      (λ t. absurd (omega (arith, rw t at e)))
      (λ t. rw t (first_none lns (omega (arith, rw t at e))))

  -- it is the one that a search finds
  pub first_seek : (lns : List Line) → seek f (map row_of lns) < length lns
      → first (λ ln. f (row_of ln)) lns ≡ get_or lns (seek f (map row_of lns)) no_line
  first_seek [] h = absurd (omega arith)
  first_seek (ln ∷ lns) h =
      by_cases (f (row_of ln)) (λ e. rw e) (λ e. rw e (first_seek lns (omega (arith, rw e at h))))

-- with no upper mover a reach is C
alone : (l : ℕ) → 0 < l → (rs : List ℕ) (p : ℕ) (h ln : Line) → h ≡ empty_line → reach_on l rs p h ln ≡ ln.cost.0
alone l z rs p h ln e = ap (λ (x : Line). reach_on l rs p x ln) e ∙ reach_alone l z rs p ln

module _ (l : ℕ) (lns : List Line) where
  -- the reach that stands at core p
  reaches_at : (n p : ℕ) → p < n → get_or (reaches l lns n) p 0 ≡ reach_on l (reaches l lns p) p (upper_on p lns) (lower_on p lns)
  unfolding reaches
  reaches_at zero p h = absurd (omega arith)
  reaches_at (suc n) p h =
      let rs : List ℕ = reaches l lns n in
      let v : ℕ = reach_on l rs n (upper_on n lns) (lower_on n lns) in
      let e = reaches_length l lns n in
      by_cases (ltb p n)
      (λ t. get_or-append rs (v ∷ []) 0 p (omega (arith, ltb-true p n t)) ∙ reaches_at n p (ltb-true p n t))
      (λ t.
      let q : p ≡ n = omega (arith, ltb-false p n t) in
      rw q (get_or_at rs v [] 0 n e))

  -- an upper mover's reach is the same to all later cores
  reach_kept : (n p : ℕ) → p ≤ n → (ln : Line) → first_core (row_of ln) < p → reach_of (reaches l lns n) ln ≡ reach_of (reaches l lns p) ln
  reach_kept n p h ln k =
      let q : ℕ = first_core (row_of ln) in
      reaches_at n q (omega arith) ∙ sym (reaches_at p q k)

  -- so a mover's reach may ask for all reaches
  reach_all : 0 < l → (n p : ℕ) → p ≤ n → (ln : Line)
      → reach_on l (reaches l lns p) p (upper_on p lns) ln ≡ reach_on l (reaches l lns n) p (upper_on p lns) ln
  unfolding reach_on
  reach_all z n p h ln =
      ⊎_elim
      (λ e. rw (reach_kept n p h (upper_on p lns) (upper_first p (row_of (upper_on p lns)) e)))
      (λ e. alone l z (reaches l lns p) p (upper_on p lns) ln e ∙ sym (alone l z (reaches l lns n) p (upper_on p lns) ln e))
      (first_cases (upper p) lns)

-- a mover is one of the lines
pub line_there : (lns : List Line) (i : ℕ) → moves (row_of (get_or lns i no_line)) ≡ true → i < length lns
line_there [] i e = absurd (omega (arith, ltb-true 1 0 e))
line_there (ln ∷ lns) zero e = omega arith
line_there (ln ∷ lns) (suc i) e = omega (arith, line_there lns i e)

module _ (pl : Plan) (k : PlanKept pl) where
  -- a mover's first core is one of the cores, and there it is the lower mover
  lower_mover : (i : ℕ) →
      let ln = get_or pl.lines i no_line in
      moves (row_of ln) ≡ true → (first_core (row_of ln) < cores_limit) × (lower_on (first_core (row_of ln)) pl.lines ≡ ln)
  lower_mover i e =
      let lns : List Line = pl.lines in
      let row : List ℕ = row_of (get_or lns i no_line) in
      let p : ℕ = first_core row in
      let r = get_or-map row_of lns i no_line in
      let m : 1 < parts row = ltb-true 1 (parts row) e in
      let f : seek (lower p) (map row_of lns) ≡ i = lower_found k.structure p i (rw r (lower_at row p m refl)) in (
        first_there pl k i m,
        first_seek (lower p) lns (rw f (line_there lns i e)) ∙ ap (λ (j : ℕ). get_or lns j no_line) f,
      )

  -- a mover: (s × (D_h + 2T_h) + L × (2C_h + C)) / (L − s), rounded up, less T
  pub mover_late : (i : ℕ) →
      let ln = get_or pl.lines i no_line in
      let p = first_core (row_of ln) in
      moves (row_of ln) ≡ true
      → late pl.common (plan_reaches pl) pl.lines ln ≡ sub_ℕ (reach_on pl.common (plan_reaches pl) p (upper_on p pl.lines) ln) ln.period.0
  unfolding late
  mover_late i e =
      let l : ℕ = pl.common in
      let lns : List Line = pl.lines in
      let ln : Line = get_or lns i no_line in
      let p : ℕ = first_core (row_of ln) in
      let m = lower_mover i e in
      rw e
      (ap (λ (n : ℕ). sub_ℕ n ln.period.0)
      (reaches_at l lns cores_limit p m.0
      ∙ ap (λ (x : Line). reach_on l (reaches l lns p) p (upper_on p lns) x) m.1
      ∙ reach_all l lns k.common_some cores_limit p (omega (arith, m.0)) ln))

  -- with no h it is C − T
  pub mover_alone : (i : ℕ) →
      let ln = get_or pl.lines i no_line in
      let p = first_core (row_of ln) in
      moves (row_of ln) ≡ true → how_many (upper p) (shares_table pl) ≡ 0
      → late pl.common (plan_reaches pl) pl.lines ln ≡ sub_ℕ ln.cost.0 ln.period.0
  mover_alone i e z =
      let ln : Line = get_or pl.lines i no_line in
      let p : ℕ = first_core (row_of ln) in
      mover_late i e
      ∙ ap (λ (n : ℕ). sub_ℕ n ln.period.0)
      (alone pl.common k.common_some (plan_reaches pl) p (upper_on p pl.lines) ln (first_none (upper p) pl.lines z))
