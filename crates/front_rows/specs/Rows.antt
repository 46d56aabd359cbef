-- What an instant asks of the tasks, in a list of seven numbers a task.
use Rattle.std.specs.Prelude.{ℕ, ◌+◌, ◌*◌, List, get_or, set}
use Rattle.lists.specs.Tabled.{tabled}
use Rattle.units.specs.Limits.{tasks_limit}
use Rattle.units.specs.Units.{ticks}
use Rattle.fronts.specs.declared.Front.{Front}

-- task i's, from 0
abbrev pub front_at : List ℕ → ℕ → Front
front_at xs i = record {
  core = get_or xs (7 * i) 0;
  release = ticks (get_or xs (7 * i + 1) 0);
  key = get_or xs (7 * i + 2) 0;
  length = get_or xs (7 * i + 3) 0;
  run = get_or xs (7 * i + 4) 0;
  last = ticks (get_or xs (7 * i + 5) 0);
  period = get_or xs (7 * i + 6) 0;
}

-- all tasks'
unfoldable pub fronts_in : List ℕ → List Front
fronts_in xs = tabled (front_at xs) tasks_limit

-- a front's first three numbers at a place
abbrev pub put_run : List ℕ → ℕ → Front → List ℕ
put_run xs at f = set (set (set xs at f.core) (at + 1) f.release.0) (at + 2) f.key

-- task i has another
abbrev pub put_front : List ℕ → ℕ → Front → List ℕ
put_front xs i f =
    set (set (set (set (put_run xs (7 * i) f) (7 * i + 3) f.length) (7 * i + 4) f.run) (7 * i + 5) f.last.0) (7 * i + 6) f.period
