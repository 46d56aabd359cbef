-- How a task stands on a core: the words of fixed tasks and movers as one table. Cores are counted from 0.
use Rattle.std.specs.Prelude.{ℕ, Bool, cond, List, ltb, eqb, get_or}
use Rattle.task_shares.specs.declared.standing.Standing.{Standing}
use Rattle.task_shares.specs.declared.standing.Standing.TheVariants.{Absent, Fixed, Lower, Upper}
use Rattle.task_shares.specs.Movers.{moves, first_core}

-- a task that moves or not, with a share s on core p and the first core f
abbrev pub standing_by : Bool → ℕ → ℕ → ℕ → Standing
standing_by m s f p = cond (ltb 0 s) (cond m (cond (eqb f p) Lower Upper) Fixed) Absent

-- a task's row of shares on core p
abbrev pub standing_on : ℕ → List ℕ → Standing
standing_on p row = standing_by (moves row) (get_or row p 0) (first_core row) p
