-- What a rehearsal keeps of a task beside its state: its unfinished runs' lengths, in the places of their deadlines, and how many runs have ended.
use Rattle.std.specs.Prelude.{ℕ, ◌+◌, [], ◌∷◌, ◌++◌, drop, get_or, set}
use Rattle.units.specs.Limits.{runs_limit}
use Rattle.lists.specs.Lists.{zeros}
use Rattle.run_lengths.specs.declared.Work.{Work}

-- a task that has had no run
unfoldable pub fresh_work : Work
fresh_work = record { lengths = zeros runs_limit; ended = 0 }

-- what stands past the last task
abbrev pub no_work : Work
no_work = record { lengths = []; ended = 0 }

-- the length of a task's k-th unfinished run, oldest first, from 0
abbrev pub length_at : Work → ℕ → ℕ
length_at wk k = get_or wk.lengths k 0

-- the number of a task's k-th unfinished run, from 1
abbrev pub number_at : Work → ℕ → ℕ
number_at wk k = wk.ended + 1 + k

-- one run more, in the k-th place
unfoldable pub with_length : Work → ℕ → ℕ → Work
with_length wk k n = record { lengths = set wk.lengths k n; ended = wk.ended }

-- the oldest ended: the others move up
unfoldable pub without_length : Work → Work
without_length wk = record { lengths = drop 1 wk.lengths ++ (0 ∷ []); ended = wk.ended + 1 }
