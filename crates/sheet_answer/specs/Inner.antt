-- For the contracts of functions that only the programs call. It stands for no rule of document 02.
use Rattle.std.specs.Prelude.{ℕ, ◌≤◌, ◌≡◌, true, length}
use Rattle.units.specs.Limits.{tasks_limit}
use Rattle.planning.specs.declared.Plan.{Plan}
use Rattle.planning.specs.Shape.{PlanShaped}
use Rattle.soundness.specs.Plan.{plan_sound}
use Rattle.sheet_reading.specs.Read.{names_limit}
use Rattle.sheet_reading.specs.Read.{Sheet}

-- bytes of any answer, at most
abbrev pub answer_limit : ℕ
answer_limit = 32768

-- a plan of at most sixty-four tasks, with a line for each
pub record Few (pl : Plan) : Type 0 where
  pub count : pl.count ≤ tasks_limit
  pub lines : length pl.lines ≡ tasks_limit

-- a sheet that is taken has a plan that can be listed, and its names fit
pub record Listable (sh : Sheet) : Type 0 where
  pub shaped : PlanShaped sh.plan
  pub sound : plan_sound sh.plan ≡ true
  pub tasks : Few sh.plan
  pub few : sh.length ≤ names_limit
  pub long : length sh.names ≡ names_limit
