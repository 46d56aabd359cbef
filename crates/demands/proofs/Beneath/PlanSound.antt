-- Document 01's clauses of a record's plan say that it is sound.
use Prim.Native.Nat.{ℕ, suc, ◌*◌, ◌≤◌, ◌<◌}
use mathlib.Core.Path.{◌≡◌, refl, sym, ap, ◌∙◌}
use mathlib.Core.Bool.{true, not, ◌||◌}
use mathlib.Core.List.{List, [], ◌∷◌}
use native.Mathlib.Omega.{arith}
use native.Mathlib.Nat.{div-eq_of_lt-le}
use lib.Dec.{ltb, eqb}
use lib.ListN.{get_or}
use borrow.Author.Tests.{ltb-true, ltb-false, le-leb, eqb-true, eq-eqb}
use Rattle.units.specs.Limits.{cores_limit, tasks_limit, period_limit, common_limit}
use Rattle.lists.specs.Lists.{total}
use Rattle.lists.specs.Rows.{how_many, column, top}
use Rattle.lists.proofs.Tests.{by_cases, or_left, or_right}
use Rattle.lists.proofs.Below.{all_from}
use Rattle.admission.specs.Weight.{weight}
use Rattle.task_shares.specs.Movers.{moves_on, fixed_on, lower}
use Rattle.assignment.proofs.Guarded.{guarded_exactly}
use Rattle.planning.specs.Plan.{row_of, shares_table}
use Rattle.soundness.specs.Rules.{numbers_in, common_is}
use Rattle.soundness.specs.Plan.{line_ok, core_sound, plan_sound}
use Rattle.dispatch.specs.declared.Record.{Record}
use Rattle.dispatch.specs.Record.{line_at}
use Rattle.dispatch.specs.Shape.{Shaped}
use Rattle.demands.specs.Sound.{Sound}
use Rattle.demands.proofs.Beneath.SoundCommon.{common_exactly}
use Rattle.demands.proofs.Beneath.SoundPlan.{row_is}

-- numbers that are all 0 sum to 0
pub none_sum : (xs : List ℕ) → ((p : ℕ) → get_or xs p 0 ≡ 0) → total xs ≡ 0
none_sum [] h = refl
none_sum (x ∷ xs) h = omega (arith, h 0, none_sum xs (λ p. h (suc p)))

-- where no row has a share a core has none
none_column : (p : ℕ) (tab : List (List ℕ)) → ((i : ℕ) → get_or (get_or tab i []) p 0 ≡ 0) → column p tab ≡ 0
none_column p [] h = refl
none_column p (row ∷ tab) h = omega (arith, h 0, none_column p tab (λ i. h (suc i)))

-- a weight that is exact is the quotient
exact_is : (l c t w : ℕ) → 0 < t → w * t ≡ c * l → w ≡ weight l c t
exact_is l c t w h e = sym (div-eq_of_lt-le t (omega arith) (omega arith))

module _ (r : Record) (long : Shaped r) (x : Sound r) where
  abbrev tab : List (List ℕ)
  tab = shares_table r.plan

  -- cores, tasks and the common period
  numbers_rule : numbers_in r.plan ≡ true
  numbers_rule =
      rw (
        le-leb 1 r.plan.cores x.cores.0,
        le-leb r.plan.cores cores_limit x.cores.1,
        le-leb 1 r.plan.count x.tasks.0,
        le-leb r.plan.count tasks_limit x.tasks.1,
        le-leb 1 r.plan.common x.common.0,
        le-leb r.plan.common common_limit x.common.1,
      )

  -- L
  common_rule : common_is r.plan ≡ true
  common_rule = (common_exactly r.plan long.plan x.tasks.1 x.common.0).1 (x.multiple, x.least)

  -- a task's line
  line_rule : (i : ℕ) → line_ok r.plan i ≡ true
  line_rule i =
      let ln = line_at r i in
      by_cases (ltb i r.plan.count)
      (λ t.
      let h = ltb-true i r.plan.count t in
      let n = x.ranges i h in
      rw (
        t,
        le-leb 1 ln.cost.0 n.cost.0,
        le-leb ln.cost.0 ln.period.0 n.cost.1,
        le-leb ln.period.0 period_limit n.period.1,
        eq-eqb ln.weight.0 (weight r.plan.common ln.cost.0 ln.period.0)
            (exact_is r.plan.common ln.cost.0 ln.period.0 ln.weight.0 n.period.0 (x.weights i h)),
        eq-eqb (total (row_of ln)) ln.weight.0 (x.shares i h),
      ))
      (λ t.
      let z = (x.past i (ltb-false i r.plan.count t)).0 in
      rw (
        t,
        eq-eqb ln.cost.0 0 z.numbers.0,
        eq-eqb ln.period.0 0 z.numbers.1,
        eq-eqb ln.weight.0 0 z.numbers.2,
        eq-eqb (total (row_of ln)) 0 (none_sum (row_of ln) z.shares),
      ))

  -- every task's shares sum to its weight, past the N tasks to 0
  weighs : (i : ℕ) → total (row_of (line_at r i)) ≡ (line_at r i).weight.0
  weighs i =
      by_cases (ltb i r.plan.count)
      (λ t. x.shares i (ltb-true i r.plan.count t))
      (λ t. let z = (x.past i (ltb-false i r.plan.count t)).0 in none_sum (row_of (line_at r i)) z.shares ∙ sym z.numbers.2)

  -- no mover is heavier than the heaviest fixed task
  heaviest : (p : ℕ) → top (moves_on p) tab ≤ top (fixed_on p) tab
  heaviest p =
      (guarded_exactly p tab).1
      (λ i m.
      let g = x.guarded i p (rw (row_is r.plan i) at m) in
      let j = g.0 in
      (j, rw (row_is r.plan j) g.1, rw (row_is r.plan i, row_is r.plan j, weighs i, weighs j) g.2))

  -- a core
  core_rule : (p : ℕ) → core_sound r.plan p ≡ true
  core_rule p =
      let two = eqb (how_many (moves_on p) tab) 2 in
      let one = eqb (how_many (lower p) tab) 1 in
      let there = ltb p r.plan.cores in
      let empty = eqb (column p tab) 0 in
      let only : (there || empty) ≡ true =
      by_cases there
      (λ t. or_left there empty t)
      (λ t. or_right there empty (eq-eqb (column p tab) 0
      (none_column p tab (λ i. rw (row_is r.plan i) (x.only i p (ltb-false p r.plan.cores t)))))) in
      let first : (not two || one) ≡ true =
      by_cases two
      (λ t. or_right (not two) one (eq-eqb (how_many (lower p) tab) 1 (x.first p (eqb-true (how_many (moves_on p) tab) 2 t))))
      (λ t. or_left (not two) one (ap not t)) in
      rw (
        le-leb (column p tab) r.plan.common (x.loads p),
        only,
        le-leb (how_many (moves_on p) tab) 2 (x.movers p),
        first,
        le-leb (top (moves_on p) tab) (top (fixed_on p) tab) (heaviest p),
      )

  -- the plan
  pub plan_rule : plan_sound r.plan ≡ true
  unfolding plan_sound
  plan_rule =
      rw (
        numbers_rule,
        all_from tasks_limit (line_ok r.plan) (λ i h. line_rule i),
        common_rule,
        all_from cores_limit (core_sound r.plan) (λ p h. core_rule p),
      )
