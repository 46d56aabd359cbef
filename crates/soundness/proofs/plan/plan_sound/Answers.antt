-- `soundness::plan::plan_sound` meets its contract: the tasks from i on are tested and summed.
use Prim.Native.Nat.{ℕ, ◌+◌, ◌-◌, ◌<◌}
use mathlib.Core.Bool.{true}
use mathlib.Core.Path.{◌≡◌, sym, ◌∙◌}
use native.Mathlib.Omega.{arith}
use lib.ListN.{length, get_or}
use borrow.Author.Rules.{rules}
use Rattle.units.specs.Limits.{tasks_limit}
use Rattle.planning.specs.declared.Line.{Line}
use Rattle.planning.specs.declared.Plan.{Plan}
use Rattle.planning.specs.Plan.{no_line, row_of}
use Rattle.soundness.specs.Rules.{numbers_in}
use Rattle.soundness.specs.Plan.{line_sound}
use Rattle.soundness.proofs.Numbers.{Numbers, numbers}
use Rattle.soundness.proofs.Ranges.{InRange, in_range, sound_in, sound_sum, sound_small, empty_zero}
use Rattle.soundness.proofs.Tasks.{Checked, start, period_breaks, task_breaks, task_more, past_breaks, past_more, finish}
use Rattle.soundness.proofs.Added.{none_more}
use Rattle.soundness.proofs.Summed.{Summed, at_most_all, more}
use Rattle.soundness.proofs.Summed as summed
use Rattle.soundness.proofs.Whole.{numbers_break, tasks_break, others_decide}
use Rattle.soundness.proofs.plan.plan_sound.Goals.{Else-not-line_sound, Else-not-numbers_in, In-loop-i}
use Rattle.soundness.proofs.plan.plan_sound.Goals as goal

ranges : (c : Else-not-numbers_in) → numbers_in c.args.plan ≡ true
ranges c = sym c.numbers_in.ensures ∙ c.if-not-numbers_in.false

known : (c : Else-not-numbers_in) → Numbers c.args.plan
known c = numbers c.args.plan (ranges c)

long : (c : Else-not-numbers_in) → length c.args.plan.lines ≡ tasks_limit
long c = search rules

-- the line that is tested, and the invariant there
abbrev line_of : Plan → ℕ → Line
line_of pl i = get_or pl.lines (i - 1) no_line

low : (c : In-loop-i) → c.loop-i.i - 1 < tasks_limit
low c = omega (arith, c.loop-i.invariant.0.below)

tested : (c : In-loop-i) →
    let pl = c.args.plan in
    Checked pl c.loop-i.divisor ((c.loop-i.i - 1) + 1) × Summed pl c.loop-i.sums ((c.loop-i.i - 1) + 1)
tested c =
    let e : (c.loop-i.i - 1) + 1 ≡ c.loop-i.i = omega arith in
    rw e c.loop-i.invariant

sound : (c : Else-not-line_sound) →
    line_sound c.args.plan.common (line_of c.args.plan c.loop-i.i) ≡ true
sound c = sym c.line_sound.ensures ∙ c.if-not-line_sound.false

-- a task that is sound is in range
in_use : (c : Else-not-line_sound) → InRange (line_of c.args.plan c.loop-i.i)
in_use c =
    in_range (line_of c.args.plan c.loop-i.i) (sound_in c.args.plan.common (line_of c.args.plan c.loop-i.i) (sound c))

pub returns-then-not-numbers_in : goal.returns-then-not-numbers_in
returns-then-not-numbers_in c =
    let in_range = c.numbers_in in
    sym (numbers_break c.args.plan (sym in_range.ensures ∙ c.if-not-numbers_in.true))

pub loop-i-init : goal.loop-i-init
loop-i-init c =
    let pl = c.args.plan in
    (start pl (known c) (long c), summed.start pl (long c))

pub returns-then-not-line_sound : goal.returns-then-not-line_sound
returns-then-not-line_sound c =
    let pl = c.args.plan in
    sym (tasks_break pl (task_breaks pl (known (goal.at.returns-then-not-line_sound c).Else-not-numbers_in)
    (long (goal.at.returns-then-not-line_sound c).Else-not-numbers_in) c.loop-i.divisor (c.loop-i.i - 1)
    (tested (goal.at.returns-then-not-line_sound c).In-loop-i).0
    c.if-i-count.true
    (sym c.line_sound.ensures ∙ c.if-not-line_sound.true)))

pub returns-then-divisor-eq0 : goal.returns-then-divisor-eq0
returns-then-divisor-eq0 c =
    let pl = c.args.plan in
    sym (tasks_break pl (period_breaks pl (known (goal.at.returns-then-divisor-eq0 c).Else-not-numbers_in)
    (long (goal.at.returns-then-divisor-eq0 c).Else-not-numbers_in) c.loop-i.divisor (c.loop-i.i - 1)
    c.if-i-count.true
    (sym c.divisor_with-divisor.ensures ∙ c.if-divisor-eq0.true)))

pub with_line-sums-requires : goal.with_line-sums-requires
with_line-sums-requires c =
    let pl = c.args.plan in
    let n = known (goal.at.with_line-sums-requires c).Else-not-numbers_in in (
      at_most_all pl (long (goal.at.with_line-sums-requires c).Else-not-numbers_in) c.loop-i.sums c.loop-i.i c.loop-i.invariant.1,
      sound_sum pl.common (line_of c.args.plan c.loop-i.i) (sound (goal.at.with_line-sums-requires c).Else-not-line_sound),
      omega (arith, sound_small pl.common (line_of c.args.plan c.loop-i.i) (sound (goal.at.with_line-sums-requires c).Else-not-line_sound), n.common_small),
    )

pub loop-i-preserved-then-i-count : goal.loop-i-preserved-then-i-count
loop-i-preserved-then-i-count c =
    let pl = c.args.plan in
    let n = known (goal.at.loop-i-preserved-then-i-count c).Else-not-numbers_in in
    let d = c.divisor_with-divisor in (
      task_more pl n (long (goal.at.loop-i-preserved-then-i-count c).Else-not-numbers_in) c.loop-i.divisor (c.loop-i.i - 1)
          (tested (goal.at.loop-i-preserved-then-i-count c).In-loop-i).0 c.if-i-count.true
          d.result (sound (goal.at.loop-i-preserved-then-i-count c).Else-not-line_sound) d.ensures c.if-divisor-eq0.false,
      more pl (long (goal.at.loop-i-preserved-then-i-count c).Else-not-numbers_in) c.loop-i.sums c.with_line-sums.result (c.loop-i.i - 1)
          (tested (goal.at.loop-i-preserved-then-i-count c).In-loop-i).1 (low (goal.at.loop-i-preserved-then-i-count c).In-loop-i) c.with_line-sums.ensures
          (omega (
            arith,
            sound_sum pl.common (line_of c.args.plan c.loop-i.i) (sound (goal.at.loop-i-preserved-then-i-count c).Else-not-line_sound),
            sound_small pl.common (line_of c.args.plan c.loop-i.i) (sound (goal.at.loop-i-preserved-then-i-count c).Else-not-line_sound),
            n.common_small,
          )),
    )

pub returns-then-not-line_empty : goal.returns-then-not-line_empty
returns-then-not-line_empty c =
    let pl = c.args.plan in
    sym (tasks_break pl (past_breaks pl (known (goal.at.returns-then-not-line_empty c).Else-not-numbers_in)
    (long (goal.at.returns-then-not-line_empty c).Else-not-numbers_in) c.loop-i.divisor (c.loop-i.i - 1)
    (tested (goal.at.returns-then-not-line_empty c).In-loop-i).0
    c.if-i-count.false
    (sym c.line_empty.ensures ∙ c.if-not-line_empty.true)))

pub loop-i-preserved : goal.loop-i-preserved
loop-i-preserved c =
    let pl = c.args.plan in
    let n = known (goal.at.loop-i-preserved c).Else-not-numbers_in in
    let empty = sym c.line_empty.ensures ∙ c.if-not-line_empty.false in
    let zero = (empty_zero (line_of c.args.plan c.loop-i.i) empty).shares in (
      past_more pl n (long (goal.at.loop-i-preserved c).Else-not-numbers_in) c.loop-i.divisor (c.loop-i.i - 1)
          (tested (goal.at.loop-i-preserved c).In-loop-i).0 c.if-i-count.false (low (goal.at.loop-i-preserved c).In-loop-i) empty,
      more pl (long (goal.at.loop-i-preserved c).Else-not-numbers_in) c.loop-i.sums c.loop-i.sums (c.loop-i.i - 1)
          (tested (goal.at.loop-i-preserved c).In-loop-i).1 (low (goal.at.loop-i-preserved c).In-loop-i)
          (none_more (row_of (line_of c.args.plan c.loop-i.i)) c.loop-i.sums zero) (omega (arith, zero)),
    )

pub returns : goal.returns
returns c =
    let pl = c.args.plan in
    let e : c.loop-i.i ≡ 0 = omega arith in
    let all = rw e at c.loop-i.invariant in
    others_decide pl c.loop-i.sums _ _ (ranges (goal.at.returns c).Else-not-numbers_in)
    (finish pl (known (goal.at.returns c).Else-not-numbers_in) (long (goal.at.returns c).Else-not-numbers_in) c.loop-i.divisor all.0)
    c.cores_sound.ensures all.1.sums
