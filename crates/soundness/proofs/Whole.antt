-- The rules of a plan together: its numbers, its tasks, its cores.
use mathlib.Core.Path.{◌≡◌, sym, ap, ap₂, ◌∙◌}
use mathlib.Core.Bool.{Bool, true, false, ◌&&◌, and-false, and_assoc}
use Rattle.units.specs.Limits.{cores_limit, tasks_limit}
use Rattle.lists.specs.Below.{all_below}
use Rattle.lists.proofs.Below.{all_same}
use Rattle.planning.specs.declared.Plan.{Plan}
use Rattle.planning.specs.Plan.{shares_table}
use Rattle.soundness.specs.declared.sums.Sums.{Sums}
use Rattle.soundness.specs.Rules.{numbers_in, common_is}
use Rattle.soundness.specs.Plan.{line_ok, core_sound, plan_sound}
use Rattle.soundness.specs.Inner.{SumsOf, sums_sound}

-- the numbers break a rule
pub numbers_break : (pl : Plan) → numbers_in pl ≡ false → plan_sound pl ≡ false
unfolding plan_sound
numbers_break pl e = rw e

module _ (pl : Plan) where
  abbrev tasks : Bool
  tasks = all_below tasks_limit (line_ok pl) && common_is pl

  abbrev cores : Bool
  cores = all_below cores_limit (core_sound pl)

  -- in three groups: numbers, tasks, cores
  groups : plan_sound pl ≡ (numbers_in pl && tasks && cores)
  unfolding plan_sound
  groups = ap (λ (b : Bool). b && cores) (and_assoc (numbers_in pl) (all_below tasks_limit (line_ok pl)) (common_is pl))

  -- the tasks do
  pub tasks_break : (all_below tasks_limit (line_ok pl) && common_is pl) ≡ false → plan_sound pl ≡ false
  tasks_break e = groups ∙ rw (e, and-false (numbers_in pl))

  -- the cores by the sums of all tasks
  by_sums : (s : Sums) → SumsOf (shares_table pl) s → all_below cores_limit (sums_sound pl.cores pl.common s) ≡ cores
  by_sums s at =
      all_same cores_limit (sums_sound pl.cores pl.common s) (core_sound pl)
      (λ p h. let k = at p h in rw (k.load, k.fixed, k.movers, k.firsts, k.heaviest))

  -- the numbers do not: the tasks and the cores decide
  pub others_decide : (s : Sums) (t c : Bool) → numbers_in pl ≡ true → t ≡ (all_below tasks_limit (line_ok pl) && common_is pl)
      → c ≡ all_below cores_limit (sums_sound pl.cores pl.common s) → SumsOf (shares_table pl) s → (t && c) ≡ plan_sound pl
  others_decide s t c n e d at = ap₂ ◌&&◌ e (d ∙ by_sums s at) ∙ sym (groups ∙ ap (λ (b : Bool). b && tasks && cores) n)
