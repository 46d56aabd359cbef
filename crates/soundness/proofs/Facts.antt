-- What a sound plan says: its rules one by one, and what calls on a record rely on.
use Prim.Native.Nat.{ℕ, ◌≤◌, ◌<◌}
use mathlib.Core.Path.{◌≡◌, sym, ◌∙◌}
use mathlib.Core.Bool.{true, ◌&&◌}
use native.Mathlib.Omega.{arith}
use lib.ListN.{get_or}
use Rattle.units.specs.Limits.{cores_limit, tasks_limit, period_limit, common_limit}
use Rattle.lists.specs.Lists.{total}
use Rattle.lists.specs.Below.{all_below}
use Rattle.lists.proofs.Tests.{and_left, and_right}
use Rattle.lists.proofs.Below.{all_at}
use Rattle.planning.specs.declared.Plan.{Plan}
use Rattle.planning.specs.Plan.{no_line, row_of}
use Rattle.soundness.specs.Rules.{numbers_in, common_is}
use Rattle.soundness.specs.Plan.{line_sound, line_ok, core_sound, plan_sound}
use Rattle.soundness.proofs.Numbers.{Numbers, numbers}
use Rattle.soundness.proofs.Ranges.{in_range, sound_in, sound_small, sound_sum}
use Rattle.soundness.proofs.Tasks.{task_ok}

-- the rules
pub record Ruled (pl : Plan) : Type 0 where
  pub numbers : numbers_in pl ≡ true
  pub lines : (i : ℕ) → i < tasks_limit → line_ok pl i ≡ true
  pub common : common_is pl ≡ true
  pub cores : (p : ℕ) → p < cores_limit → core_sound pl p ≡ true

pub ruled : (pl : Plan) → plan_sound pl ≡ true → Ruled pl
unfolding plan_sound
ruled pl e =
    let a = numbers_in pl in
    let b = all_below tasks_limit (line_ok pl) in
    let c = common_is pl in
    let d = all_below cores_limit (core_sound pl) in
    let abc = and_left (a && b && c) d e in
    let ab = and_left (a && b) c abc in
    record {
      numbers = and_left a b ab;
      lines = λ i h. all_at tasks_limit i (line_ok pl) h (and_right a b ab);
      common = and_right (a && b) c abc;
      cores = λ p h. all_at cores_limit p (core_sound pl) h (and_right (a && b && c) d e);
    }

module _ (pl : Plan) (ok : plan_sound pl ≡ true) where
  few : Numbers pl
  few = numbers pl (ruled pl ok).numbers

  pub cores_few : pl.cores ≤ cores_limit
  cores_few = few.cores_few

  pub tasks_few : pl.count ≤ tasks_limit
  tasks_few = few.count_few

  -- a task in use is sound
  pub task_sound : (i : ℕ) → i < pl.count → line_sound pl.common (get_or pl.lines i no_line) ≡ true
  task_sound i h = sym (task_ok pl i h) ∙ (ruled pl ok).lines i (omega (arith, tasks_few))

  pub period_small : (i : ℕ) → i < pl.count → (get_or pl.lines i no_line).period.0 ≤ period_limit
  period_small i h = let ln = get_or pl.lines i no_line in (in_range ln (sound_in pl.common ln (task_sound i h))).period_small

  pub weight_small : (i : ℕ) → i < pl.count → (get_or pl.lines i no_line).weight.0 ≤ common_limit
  weight_small i h = omega (arith, sound_small pl.common (get_or pl.lines i no_line) (task_sound i h), few.common_small)

  pub shares_sum : (i : ℕ) → i < pl.count → total (row_of (get_or pl.lines i no_line)) ≡ (get_or pl.lines i no_line).weight.0
  shares_sum i h = sound_sum pl.common (get_or pl.lines i no_line) (task_sound i h)
