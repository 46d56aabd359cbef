-- The limits of document 01, "Numbers and units".
use Rattle.std.specs.Prelude.{ℕ}
use Rattle.units.specs.declared.limits.Limits.{Limits}

-- cores M, at most
abbrev pub cores_limit : ℕ
cores_limit = 16

-- tasks N, at most
abbrev pub tasks_limit : ℕ
tasks_limit = 64

-- a task's period, at most
abbrev pub period_limit : ℕ
period_limit = 1000000

-- the common period L, at most
abbrev pub common_limit : ℕ
common_limit = 1000000

-- the clock, at most
abbrev pub clock_limit : ℕ
clock_limit = 1000000000000

-- unfinished runs of a task, at most
abbrev pub runs_limit : ℕ
runs_limit = 8

-- all of them
abbrev pub the_limits : Limits
the_limits = record {
  cores = cores_limit;
  tasks = tasks_limit;
  period = period_limit;
  common = common_limit;
  clock = clock_limit;
  runs = runs_limit;
}
