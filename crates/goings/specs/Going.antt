-- The run that has a core, and since when.
use Rattle.std.specs.Prelude.{ℕ, zero, suc, ◌+◌, ◌-◌, Bool, cond, ◌&&◌, List, eqb, get_or, set}
use Rattle.units.specs.Units.{ticks}
use Rattle.goings.specs.declared.Going.{Going}

-- no run
abbrev pub no_going : Going
no_going = record { task = 0; run = 0; from = ticks 0 }

-- it is run n of task i, from 1; 0 and 0 for none
abbrev pub same : Going → ℕ → ℕ → Bool
same g i n = eqb g.task i && eqb g.run n

-- it goes on where the choice, run n of task i, is the same run, and else that goes from an instant on
abbrev pub going_of : Going → ℕ → ℕ → ℕ → Going
going_of g i n t = cond (same g i n) g (record { task = i; run = n; from = ticks t })

-- the ticks had, after m more for the run that has each of the first n cores
unfoldable pub ran_by : List Going → ℕ → List ℕ → ℕ → List ℕ
ran_by gs m hs zero = hs
ran_by gs m hs (suc n) =
    let i = (get_or gs n no_going).task in
    cond (eqb i 0) (ran_by gs m hs n) (set (ran_by gs m hs n) (i - 1) (get_or (ran_by gs m hs n) (i - 1) 0 + m))
