-- A sound plan says document 01's clauses of it.
use Prim.Native.Nat.{ℕ, ◌*◌, ◌≤◌, ◌<◌, ◌∣◌}
use mathlib.Core.Path.{◌≡◌, refl, sym, ap, ◌∙◌}
use mathlib.Core.Bool.{true}
use mathlib.Core.List.{List, []}
use native.Mathlib.Omega.{arith}
use native.Mathlib.Nat.{div-mul_cancel, dvd-mul_left_of_dvd}
use lib.Dec.{ltb}
use lib.ListN.{get_or, get_or-map, get_or-eq_default}
use borrow.Author.Tests.{ltb-true, ltb-false, le-ltb}
use Rattle.units.specs.Limits.{tasks_limit}
use Rattle.lists.specs.Lists.{total}
use Rattle.lists.proofs.Tests.{by_cases}
use Rattle.lists.proofs.Rows.{column_at}
use Rattle.task_shares.specs.Movers.{moves_on, fixed_on}
use Rattle.assignment.specs.Structure.{CoreKept}
use Rattle.assignment.proofs.Guarded.{guarded_exactly}
use Rattle.assignment.proofs.Properties.{kept}
use Rattle.planning.specs.declared.Line.{Line}
use Rattle.planning.specs.declared.Plan.{Plan}
use Rattle.planning.specs.Plan.{no_line, row_of, shares_table}
use Rattle.planning.specs.Shape.{PlanShaped}
use Rattle.soundness.specs.Plan.{plan_sound}
use Rattle.soundness.proofs.Numbers.{Numbers, numbers}
use Rattle.soundness.proofs.Ranges.{Zero, empty_zero, sound_weight, sound_sum}
use Rattle.soundness.proofs.Facts.{ruled, task_sound}
use Rattle.soundness.proofs.SoundKept.{sound_kept}
use Rattle.demands.proofs.Beneath.SoundCommon.{common_exactly}

-- task i's row is its line's
pub row_is : (pl : Plan) (i : ℕ) → get_or (shares_table pl) i [] ≡ row_of (get_or pl.lines i no_line)
row_is pl i = get_or-map row_of pl.lines i no_line

module _ (pl : Plan) (long : PlanShaped pl) (ok : plan_sound pl ≡ true) where
  -- task i's line
  abbrev line_of : ℕ → Line
  line_of i = get_or pl.lines i no_line

  -- its numbers are in their ranges
  pub plan_numbers : Numbers pl
  plan_numbers = numbers pl (ruled pl ok).numbers

  -- each period divides L
  pub multiple : (i : ℕ) → i < pl.count → (line_of i).period.0 ∣ pl.common
  multiple = ((common_exactly pl long plan_numbers.count_few plan_numbers.common_some).0 (ruled pl ok).common).0

  -- and L is the least that each divides
  pub least : (n : ℕ) → 0 < n → ((i : ℕ) → i < pl.count → (line_of i).period.0 ∣ n) → pl.common ≤ n
  least = ((common_exactly pl long plan_numbers.count_few plan_numbers.common_some).0 (ruled pl ok).common).1

  -- each weight is C × L / T with no remainder
  pub exact : (i : ℕ) → i < pl.count → (line_of i).weight.0 * (line_of i).period.0 ≡ (line_of i).cost.0 * pl.common
  exact i h =
      rw (sound_weight pl.common (line_of i) (task_sound pl ok i h))
      (div-mul_cancel (line_of i).period.0 (dvd-mul_left_of_dvd (line_of i).period.0 (multiple i h) (line_of i).cost.0))

  -- past the N tasks all numbers are 0
  pub past_zero : (i : ℕ) → pl.count ≤ i → Zero (line_of i)
  past_zero i h =
      by_cases (ltb i tasks_limit)
      (λ t. empty_zero (line_of i) (rw (le-ltb i pl.count h) at ((ruled pl ok).lines i (ltb-true i tasks_limit t))))
      (λ t. rw (get_or-eq_default pl.lines no_line {n = i} (omega (arith, long.lines, ltb-false i tasks_limit t)))
      (record { cost = refl; period = refl; weight = refl; shares = refl }))

  -- every task's shares sum to its weight, past the N tasks to 0
  pub weighs : (i : ℕ) → total (row_of (line_of i)) ≡ (line_of i).weight.0
  weighs i =
      by_cases (ltb i pl.count)
      (λ t. sound_sum pl.common (line_of i) (task_sound pl ok i (ltb-true i pl.count t)))
      (λ t. let z = past_zero i (ltb-false i pl.count t) in z.shares ∙ sym z.weight)

  -- what is kept of every core
  pub core_kept : (p : ℕ) → CoreKept pl.common p (shares_table pl)
  core_kept = kept (sound_kept pl long ok).structure

  -- only the M cores have any share
  pub none_beyond : (i p : ℕ) → pl.cores ≤ p → get_or (row_of (line_of i)) p 0 ≡ 0
  none_beyond i p h =
      omega (
        arith,
        (sound_kept pl long ok).structure.beyond p h,
        column_at p (shares_table pl) i,
        ap (λ (row : List ℕ). get_or row p 0) (row_is pl i),
      )

  -- some fixed task weighs at least as much as a mover
  pub heavier : (i p : ℕ) → moves_on p (row_of (line_of i)) ≡ true
      → (j : ℕ) × (fixed_on p (row_of (line_of j)) ≡ true) × ((line_of i).weight.0 ≤ (line_of j).weight.0)
  heavier i p m =
      let g = (guarded_exactly p (shares_table pl)).0 (core_kept p).guarded i (rw (row_is pl i) m) in
      let j = g.0 in
      (j, rw (row_is pl j) at g.1, rw (row_is pl i, row_is pl j, weighs i, weighs j) at g.2)
