-- A plan is sound if every rule holds for every task and every core.
use Rattle.std.specs.Prelude.{ℕ, Bool, cond, ◌&&◌, ltb, get_or}
use Rattle.lists.specs.Below.{all_below}
use Rattle.units.specs.Limits.{cores_limit, tasks_limit}
use Rattle.planning.specs.declared.Line.{Line}
use Rattle.planning.specs.declared.Plan.{Plan}
use Rattle.planning.specs.Plan.{no_line, shares_table}
use Rattle.soundness.specs.Rules.{numbers_in, line_in, weight_is, shares_sum, line_empty, common_is, core_within, few_movers, one_first, guarded}

-- the rules for a task in use
abbrev pub line_sound : ℕ → Line → Bool
line_sound l ln = line_in ln && weight_is l ln && shares_sum ln

-- task i is in use and sound, or past the N tasks and empty
abbrev pub line_ok : Plan → ℕ → Bool
line_ok pl i = cond (ltb i pl.count) (line_sound pl.common (get_or pl.lines i no_line)) (line_empty (get_or pl.lines i no_line))

-- the rules for a core
abbrev pub core_sound : Plan → ℕ → Bool
core_sound pl p =
    core_within pl.cores pl.common (shares_table pl) p
    && few_movers (shares_table pl) p
    && one_first (shares_table pl) p
    && guarded (shares_table pl) p

-- a sound plan
unfoldable pub plan_sound : Plan → Bool
plan_sound pl = numbers_in pl && all_below tasks_limit (line_ok pl) && common_is pl && all_below cores_limit (core_sound pl)
