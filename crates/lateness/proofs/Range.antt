-- Every bound of a plan that keeps what a plan has to keep lies from -1,000,000 to 1,000,000,000.
use Prim.Native.Nat.{ℕ, zero, suc, ◌+◌, ◌-◌, ◌*◌, ◌≤◌, ◌<◌, max}
use mathlib.Core.Path.{◌≡◌, refl}
use mathlib.Core.Bool.{true}
use mathlib.Core.List.{List, [], ◌∷◌, ◌++◌, map}
use native.Mathlib.Omega.{arith}
use native.Mathlib.Nat.{mul-le-mul_left, mul-le-mul_right}
use lib.Dec.{ltb}
use lib.ListN.{get_or}
use lib.IntN.{ℤ, pos, negsuc, sub_ℕ}
use lib.Signed.{le_z}
use borrow.Author.Tests.{le-leb}
use Rattle.units.specs.Limits.{cores_limit, period_limit}
use Rattle.lists.specs.Lists.{most}
use Rattle.lists.proofs.Tests.{by_cases}
use Rattle.lists.proofs.Lists.{most_ge}
use Rattle.arith.specs.Ceiling.{ceil_div}
use Rattle.arith.proofs.Rounding.{ceil_least}
use Rattle.task_shares.specs.Movers.{moves, first_core}
use Rattle.planning.specs.declared.Line.{Line}
use Rattle.planning.specs.declared.Plan.{Plan}
use Rattle.planning.specs.Plan.{no_line, row_of}
use Rattle.planning.specs.Kept.{PlanKept}
use Rattle.lateness.specs.Lateness.{upper_on, lower_on, share_on, reach_of, reach_on, reaches, fixed_late, late, lates_of}
use Rattle.lateness.specs.Inner.{reach_limit, late_limit}
use Rattle.lateness.proofs.Modest.{Modest, modest, fixed_pair}

-- the largest of two lists
pub most_append : (xs ys : List ℕ) → most (xs ++ ys) ≡ max (most xs) (most ys)
most_append [] ys = omega arith
most_append (x ∷ xs) ys = omega (arith, most_append xs ys)

-- a share s of at most what is left, d
up_one : (s d x l y : ℕ) → s ≤ d → l ≤ 2 * d → 0 < d → ceil_div (s * x + l * y) d ≤ x + 2 * y
up_one s d x l y h k z =
    (ceil_least (s * x + l * y) d (x + 2 * y) z).1 (omega (arith, mul-le-mul_right x h, mul-le-mul_right y k))

-- two shares of at most twice what is left
up_two : (s t d x x' y l b c : ℕ) → s + t ≤ 2 * d → l ≤ 3 * d → 0 < d → x ≤ b → x' ≤ b → y ≤ c
    → ceil_div (s * x + t * x' + l * y) d ≤ 2 * b + 3 * c
up_two s t d x x' y l b c h k z p p' q =
    (ceil_least (s * x + t * x' + l * y) d (2 * b + 3 * c) z).1
    (omega (arith, mul-le-mul_left s p, mul-le-mul_left t p', mul-le-mul_left l q, mul-le-mul_right b h, mul-le-mul_right c k))

-- a mover's reach is not far above the others
reach_on_le : (l : ℕ) (rs : List ℕ) (p : ℕ) (h ln : Line) → 0 < l → Modest l p h ln → reach_on l rs p h ln ≤ most rs + 7 * period_limit
unfolding reach_on
reach_on_le l rs p h ln z m =
    let s : ℕ = share_on p h in
    let x : ℕ = reach_of rs h + h.period.0 in
    let y : ℕ = 2 * h.cost.0 + ln.cost.0 in
    omega (arith, most_ge rs (first_core (row_of h)), up_one s (l - s) x l y (omega (arith, m.half)) (omega (arith, m.half)) (omega (arith, m.half)))

module _ (pl : Plan) (k : PlanKept pl) where
  -- so the reaches are small
  pub reaches_le : (n : ℕ) → most (reaches pl.common pl.lines n) ≤ 7 * period_limit * n
  unfolding reaches
  reaches_le zero = omega arith
  reaches_le (suc n) =
      let l : ℕ = pl.common in
      let rs : List ℕ = reaches l pl.lines n in
      let h : Line = upper_on n pl.lines in
      let ln : Line = lower_on n pl.lines in
      omega (arith, most_append rs (reach_on l rs n h ln ∷ []), reach_on_le l rs n h ln k.common_some (modest pl k n), reaches_le n)

  -- and so are the bounds of the fixed tasks
  pub fixed_le : (rs : List ℕ) (p : ℕ) → most rs ≤ reach_limit → fixed_late pl.common rs pl.lines p ≤ late_limit
  fixed_le rs p b =
      let h : Line = upper_on p pl.lines in
      let ln : Line = lower_on p pl.lines in
      let s : ℕ = share_on p h in
      let t : ℕ = share_on p ln in
      let m = modest pl k p in
      let z = k.common_some in
      rw (fixed_pair pl k p rs)
      (omega (
        arith,
        up_two s t (pl.common - s - t) (reach_of rs h + h.period.0) (reach_of rs ln + ln.period.0) (2 * h.cost.0 + 2 * ln.cost.0)
            pl.common (most rs + period_limit) (4 * period_limit) (omega arith) (omega arith) (omega arith)
            (omega (arith, most_ge rs (first_core (row_of h)))) (omega (arith, most_ge rs (first_core (row_of ln)))) (omega arith),
      ))

-- from -1,000,000 to 1,000,000,000
abbrev InRange : ℤ → Type 0
InRange z = (le_z (negsuc 999999) z ≡ true) × (le_z z (pos 1000000000) ≡ true)

-- a reach less a period
sub_range : (a b : ℕ) → a ≤ late_limit → b ≤ period_limit → InRange (sub_ℕ a b)
sub_range a b h k =
    by_cases (ltb a b)
    (λ e. rw e (le-leb (b - suc a) 999999 (omega arith), refl))
    (λ e. rw e (refl, le-leb (a - b) late_limit (omega arith)))

-- what holds of each line's number holds of each number
each_line : (P : ℤ → Type 0) (f : Line → ℤ) (z : ℤ) → P z → (lns : List Line) → ((i : ℕ) → P (f (get_or lns i no_line))) → (i : ℕ)
    → P (get_or (map f lns) i z)
each_line P f z h [] k i = h
each_line P f z h (ln ∷ lns) k zero = k 0
each_line P f z h (ln ∷ lns) k (suc i) = each_line P f z h lns (λ j. k (suc j)) i

-- the bounds of a plan
pub late_range : (pl : Plan) → PlanKept pl → (i : ℕ)
    → (le_z (negsuc 999999) (get_or (lates_of pl) i (pos 0)) ≡ true) × (le_z (get_or (lates_of pl) i (pos 0)) (pos 1000000000) ≡ true)
unfolding lates_of late
late_range pl k =
    let l : ℕ = pl.common in
    let rs : List ℕ = reaches l pl.lines cores_limit in
    let b = reaches_le pl k cores_limit in
    each_line InRange (late l rs pl.lines) (pos 0) (refl, refl) pl.lines
    (λ i.
    let ln : Line = get_or pl.lines i no_line in
    let p : ℕ = first_core (row_of ln) in
    by_cases (moves (row_of ln))
    (λ e. rw e (sub_range (reach_of rs ln) ln.period.0 (omega (arith, most_ge rs p)) (k.periods i)))
    (λ e. rw e (refl, le-leb (fixed_late l rs pl.lines p) late_limit (fixed_le pl k rs p (omega arith)))))
