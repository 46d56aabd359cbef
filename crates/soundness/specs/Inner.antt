-- For the contracts of private functions alone: how the code keeps its numbers. It stands for no rule of document 01.
-- What the tasks put on each core, counted and summed, the rules for a core by it, and the divisor of the quotients of L. Cores are counted from 0.
use Rattle.std.specs.Prelude.{ℕ, ◌*◌, ◌/◌, ◌%◌, ◌≤◌, ◌<◌, ◌≡◌, Bool, cond, ◌&&◌, ◌||◌, not, List, ◌∷◌, ltb, leb, eqb, get_or}
use Rattle.units.specs.Limits.{cores_limit, tasks_limit, common_limit}
use Rattle.units.specs.Units.{share}
use Rattle.lists.specs.Rows.{how_many, column, top}
use Rattle.arith.specs.Divisor.{gcd}
use Rattle.task_shares.specs.Movers.{fixed_on, moves_on, lower}
use Rattle.soundness.specs.declared.sums.Sums.{Sums}

-- of core p: its load
abbrev pub load_at : Sums → ℕ → ℕ
load_at s p = (get_or s.loads p (share 0)).0

-- the weight of its heaviest fixed task
abbrev pub fixed_at : Sums → ℕ → ℕ
fixed_at s p = (get_or s.fixed p (share 0)).0

-- its movers
abbrev pub movers_at : Sums → ℕ → ℕ
movers_at s p = get_or s.movers p 0

-- those whose first core it is
abbrev pub firsts_at : Sums → ℕ → ℕ
firsts_at s p = get_or s.firsts p 0

-- the weight of its heaviest mover
abbrev pub heaviest_at : Sums → ℕ → ℕ
heaviest_at s p = (get_or s.heaviest p (share 0)).0

-- what the tasks of a table put on core p
pub record SumsAt (tab : List (List ℕ)) (s : Sums) (p : ℕ) : Type 0 where
  pub load : load_at s p ≡ column p tab
  pub fixed : fixed_at s p ≡ top (fixed_on p) tab
  pub movers : movers_at s p ≡ how_many (moves_on p) tab
  pub firsts : firsts_at s p ≡ how_many (lower p) tab
  pub heaviest : heaviest_at s p ≡ top (moves_on p) tab

-- on each core
abbrev pub SumsOf : List (List ℕ) → Sums → Type 0
SumsOf tab s = (p : ℕ) → p < cores_limit → SumsAt tab s p

-- one task more: the sums of any table become those of the table with its row
abbrev pub OneMore : List ℕ → Sums → Sums → Type 0
OneMore row s r = (tab : List (List ℕ)) → SumsOf tab s → SumsOf (row ∷ tab) r

-- no more is counted than all tasks can have
pub record AtMostAllTasks (s : Sums) : Type 0 where
  pub loads : (p : ℕ) → p < cores_limit → load_at s p ≤ tasks_limit * common_limit
  pub movers : (p : ℕ) → p < cores_limit → movers_at s p ≤ tasks_limit
  pub firsts : (p : ℕ) → p < cores_limit → firsts_at s p ≤ tasks_limit

-- the rules for core p of m cores of l units
abbrev pub sums_sound : ℕ → ℕ → Sums → ℕ → Bool
sums_sound m l s p =
    (leb (load_at s p) l && (ltb p m || eqb (load_at s p) 0))
    && leb (movers_at s p) 2
    && (not (eqb (movers_at s p) 2) || eqb (firsts_at s p) 1)
    && leb (heaviest_at s p) (fixed_at s p)

-- the greatest common divisor of g and of l / t, 0 where t does not divide l
abbrev pub divisor_with : ℕ → ℕ → ℕ → ℕ
divisor_with g l t = cond (eqb (l % t) 0) (gcd g (l / t)) 0
