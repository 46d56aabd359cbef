-- Planning's refusals, document 01, "Refusal numbers", in the order in which they are tested.
use Rattle.std.specs.Prelude.{ℕ, suc, ◌*◌, ◌%◌, Bool, cond, ◌||◌, List, [], ◌∷◌, ltb, eqb, length}
use Rattle.units.specs.Limits.{cores_limit, tasks_limit, period_limit}
use Rattle.lists.specs.Lists.{total}
use Rattle.units.specs.Refusals.{Refusal}
use Rattle.units.specs.Refusals.{refusal, cores_no, table_no, range_no, taken, weights_no, cost_no}

-- the first of two tests that refuses
infixr 20 ◌or_else◌
abbrev pub ◌or_else◌ : Refusal → Refusal → Refusal
a or_else b = cond (eqb a.no 0) b a

-- 1: core count 0 or above 16
abbrev pub cores_test : ℕ → Refusal
cores_test m = cond (eqb m 0 || ltb cores_limit m) (refusal cores_no 0) taken

-- so many numbers are no table: none, over 64 tasks, or ending inside a task
abbrev pub no_table : ℕ → Bool
no_table n = eqb n 0 || ltb (2 * tasks_limit) n || eqb (n % 2) 1

-- 2: table empty, over 64 tasks, or ending inside a task
abbrev pub table_test : List ℕ → Refusal
table_test xs = cond (no_table (length xs)) (refusal table_no 0) taken

-- 3: a task has cost 0, period 0 or period above its limit; 4: its cost exceeds its period
abbrev pub task_test : ℕ → ℕ → ℕ → Refusal
task_test i c t =
    cond (eqb c 0 || eqb t 0 || ltb period_limit t) (refusal range_no i)
    (cond (ltb t c) (refusal cost_no i) taken)

-- 3 and 4 for the tasks of a table in order, numbered from i
abbrev pub tasks_test : ℕ → List ℕ → Refusal
tasks_test i [] = taken
tasks_test i (c ∷ []) = taken
tasks_test i (c ∷ t ∷ xs) = task_test i c t or_else tasks_test (suc i) xs

-- 1 to 4: what the numbers themselves show
unfoldable pub input_test : ℕ → List ℕ → Refusal
input_test m xs = cores_test m or_else table_test xs or_else tasks_test 1 xs

-- 6: the weights sum to more than M × L
abbrev pub weights_test : ℕ → ℕ → List ℕ → Refusal
weights_test m l ws = cond (ltb (m * l) (total ws)) (refusal weights_no 0) taken
