-- What a sound plan says of each task: its shares, its weight and its period.
use Prim.Native.Nat.{ℕ, ◌+◌, ◌≤◌, ◌<◌, ◌∣◌}
use mathlib.Core.Path.{◌≡◌, ap, ◌∙◌}
use mathlib.Core.Bool.{true}
use mathlib.Core.List.{map}
use native.Mathlib.Omega.{arith}
use native.Mathlib.Nat.{le_of_dvd, le-div_iff_mul-le, div-lt_iff_lt-mul, mul-le-mul_right}
use lib.ListN.{length, get_or, take, length-map, get_or-map}
use lib.Seq.{get_or-take, length-take-le}
use borrow.Author.Tests.{eqb-true}
use Rattle.units.specs.Limits.{tasks_limit, period_limit, common_limit}
use Rattle.lists.specs.Lists.{total}
use Rattle.arith.specs.Period.{common}
use Rattle.arith.proofs.Common.{common_each}
use Rattle.admission.specs.Weight.{weight}
use Rattle.planning.specs.declared.Line.{Line}
use Rattle.planning.specs.declared.Plan.{Plan}
use Rattle.planning.specs.Plan.{no_line, row_of}
use Rattle.soundness.specs.Plan.{plan_sound}
use Rattle.soundness.proofs.Numbers.{numbers}
use Rattle.soundness.proofs.Facts.{ruled, task_sound}
use Rattle.soundness.proofs.Ranges.{in_range, sound_in, sound_weight, sound_sum}

-- the weight of a task whose cost is from 1 to its period, which divides l
weight_range : (l c t : ℕ) → 0 < l → 0 < c → c ≤ t → t ∣ l → (0 < weight l c t) × (weight l c t ≤ l)
weight_range l c t k h m d =
    let pos : 0 < t = omega arith in
    let some : 1 ≤ weight l c t = (le-div_iff_mul-le pos).1 (omega (arith, le_of_dvd k d, mul-le-mul_right l h)) in
    let small : weight l c t < l + 1 = (div-lt_iff_lt-mul pos).1 (omega (arith, mul-le-mul_right l m)) in
    (some, omega arith)

-- what is known of a task's line
pub record Lined (ln : Line) : Type 0 where
  pub shares : total (row_of ln) ≡ ln.weight.0
  pub some : 0 < ln.weight.0
  pub small : ln.weight.0 ≤ common_limit
  pub cost : ln.cost.0 ≤ ln.period.0
  pub period : ln.period.0 ≤ period_limit

module _ (pl : Plan) (long : length pl.lines ≡ tasks_limit) (s : plan_sound pl ≡ true) where
  -- task i's line
  abbrev line_of : ℕ → Line
  line_of i = get_or pl.lines i no_line

  -- a task's period divides L
  divides : (i : ℕ) → i < pl.count → (line_of i).period.0 ∣ pl.common
  divides i h =
      let n = numbers pl (ruled pl s).numbers in
      let period : Line → ℕ = λ (ln : Line). ln.period.0 in
      let first = take pl.count pl.lines in
      let e : get_or (map period first) i 0 ≡ (line_of i).period.0 = get_or-map period first i no_line ∙ ap period
      (get_or-take pl.count pl.lines i no_line h) in
      let m : i < length (map period first) = rw (length-map first period, length-take-le pl.count pl.lines (omega (arith, n.count_few))) h in
      rw (eqb-true pl.common (common (map period first)) (ruled pl s).common, ← e) (common_each (map period first) i m)

  -- the facts of a task's line
  pub lined : (i : ℕ) → i < pl.count → Lined (line_of i)
  lined i h =
      let n = numbers pl (ruled pl s).numbers in
      let ln = line_of i in
      let ok = task_sound pl s i h in
      let t = in_range ln (sound_in pl.common ln ok) in
      let w = sound_weight pl.common ln ok in
      let g = weight_range pl.common ln.cost.0 ln.period.0 n.common_some t.cost_some t.cost_fits (divides i h) in
      record {
        shares = sound_sum pl.common ln ok;
        some = omega (arith, g.0, w);
        small = omega (arith, g.1, w, n.common_small);
        cost = t.cost_fits;
        period = t.period_small;
      }
