-- Each task's bound, from the reaches of a plan's movers and the bounds of its fixed tasks by first core.
use Prim.Native.Nat.{ℕ, zero, suc, ◌+◌, ◌≤◌, ◌<◌}
use mathlib.Core.Path.{◌≡◌, refl, sym, ap, ◌∙◌}
use mathlib.Core.List.{List, [], ◌∷◌, map}
use native.Mathlib.Omega.{arith}
use lib.Dec.{ltb}
use lib.IntN.{ℤ, pos}
use lib.ListN.{length, get_or, set, replicate, length-map, length-replicate, get_or-replicate, get_or-eq_default}
use lib.Seq.{ext_get_or}
use borrow.Author.Tests.{ltb-true, ltb-false}
use Rattle.units.specs.Limits.{cores_limit, tasks_limit, period_limit}
use Rattle.lists.specs.Lists.{most}
use Rattle.lists.proofs.Tests.{by_cases}
use Rattle.lists.proofs.Filled.{Stored, stored_from, store_before}
use Rattle.task_shares.specs.Movers.{moves, first_core}
use Rattle.planning.specs.declared.Line.{Line}
use Rattle.planning.specs.declared.Plan.{Plan}
use Rattle.planning.specs.Plan.{empty_line, no_line, row_of}
use Rattle.planning.specs.Kept.{PlanKept}
use Rattle.lateness.specs.Lateness.{reaches, fixed_late, late, lates_of}
use Rattle.lateness.specs.declared.bounds.Note.{Note}
use Rattle.lateness.specs.Inner.{no_note, late_at, EachLate, reach_limit, late_limit}
use Rattle.lateness.proofs.Range.{reaches_le, fixed_le}

-- what is to be noted of a line
abbrev pub note : Line → Note
note ln = record { moves = moves (row_of ln); period = ln.period; first = first_core (row_of ln) }

-- it is noted of each task from i on
abbrev pub Noted : Plan → ℕ → List Note → Type 0
Noted pl i now = Stored no_note tasks_limit (λ j. note (get_or pl.lines j no_line)) (replicate tasks_limit (note empty_line)) i tasks_limit now

-- past the tasks nothing has to be noted
pub noted_none : (pl : Plan) → PlanKept pl → Noted pl pl.count (replicate tasks_limit (note empty_line))
noted_none pl k =
    stored_from no_note tasks_limit _ (replicate tasks_limit (note empty_line)) pl.count k.tasks_few (length-replicate tasks_limit (note empty_line))
    (λ q h m. get_or-replicate tasks_limit q (note empty_line) no_note m ∙ ap note (sym (k.past q h m)))

-- one task more
pub noted_next : (pl : Plan) (i : ℕ) (notes : List Note) → Noted pl (i + 1) notes → (n : Note) → n ≡ note (get_or pl.lines i no_line)
    → Noted pl i (set notes i n)
noted_next pl i notes k n e = store_before no_note tasks_limit _ _ i tasks_limit notes n k e

-- periods are small
pub periods_small : (pl : Plan) → PlanKept pl → (notes : List Note) → Noted pl 0 notes → (i : ℕ) → (get_or notes i no_note).period.0 ≤ period_limit
periods_small pl k notes n i =
    by_cases (ltb i tasks_limit)
    (λ e. omega (arith, ap (λ (m : Note). m.period.0) (n.done i (omega arith) (ltb-true i tasks_limit e)), k.periods i))
    (λ e. omega (arith, ap (λ (m : Note). m.period.0) (get_or-eq_default notes no_note {n = i} (omega (arith, n.long, ltb-false i tasks_limit e)))))

-- what stands at a place of a mapped list
pub get_or_map_in : {A B : Type 0} (f : A → B) (xs : List A) (i : ℕ) (d : A) (e : B) → i < length xs → get_or (map f xs) i e ≡ f (get_or xs i d)
get_or_map_in f [] i d e h = absurd (omega arith)
get_or_map_in f (x ∷ xs) zero d e h = refl
get_or_map_in f (x ∷ xs) (suc i) d e h = get_or_map_in f xs i d e (omega arith)

module _ (pl : Plan) (rs : List ℕ) (is : rs ≡ reaches pl.common pl.lines cores_limit) where
  -- the reaches are small
  pub reaches_small : PlanKept pl → most rs ≤ reach_limit
  reaches_small k = rw is (reaches_le pl k cores_limit)

  module _ (fixed : List ℕ) (at : (p : ℕ) → get_or fixed p 0 ≡ fixed_late pl.common rs pl.lines p) where
    -- so are the bounds of fixed tasks
    pub fixed_small : PlanKept pl → (p : ℕ) → get_or fixed p 0 ≤ late_limit
    fixed_small k p = rw (at p) (fixed_le pl k rs p (reaches_small k))

    -- a task's bound
    late_at_lem : (ln : Line) → late_at rs fixed (note ln) ≡ late pl.common rs pl.lines ln
    unfolding late
    late_at_lem ln = rw (at (first_core (row_of ln))) refl

    -- together they are the plan's
    pub tasks_late : (notes : List Note) (lates : List ℤ) → length pl.lines ≡ tasks_limit → length lates ≡ tasks_limit
        → Noted pl 0 notes → EachLate rs fixed notes lates → lates ≡ lates_of pl
    unfolding lates_of
    tasks_late notes lates l m n h =
        let all : List ℕ = reaches pl.common pl.lines cores_limit in
        ext_get_or (pos 0) lates (lates_of pl) (m ∙ sym l ∙ sym (length-map pl.lines (late pl.common all pl.lines)))
        (λ i k.
        let b : i < tasks_limit = omega (arith, m) in
        let ln : Line = get_or pl.lines i no_line in
        h i b
        ∙ ap (late_at rs fixed) (n.done i (omega arith) b)
        ∙ late_at_lem ln
        ∙ ap (λ (xs : List ℕ). late pl.common xs pl.lines ln) is
        ∙ sym (get_or_map_in (late pl.common all pl.lines) pl.lines i no_line (pos 0) (omega (arith, l))))
