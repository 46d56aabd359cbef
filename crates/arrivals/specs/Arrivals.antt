-- The arrivals of a day, request R-6: a list of numbers, three to an arrival: its time, its task from 1 and its length. Arrivals are counted from 0.
use Rattle.std.specs.Prelude.{ℕ, zero, suc, ◌+◌, ◌*◌, ◌/◌, cond, ◌||◌, List, ltb, leb, eqb, length, get_or}
use Rattle.units.specs.Refusals.{refusal, taken, arrival_no, length_no, order_no}
use Rattle.units.specs.Refusals.{Refusal}
use Rattle.admission.specs.Refusals.{◌or_else◌}
use Rattle.planning.specs.Tasks.{task_line}
use Rattle.planning.specs.declared.Plan.{Plan}
use Rattle.call_tests.specs.Tests.{outside}

-- arrivals of a day, at most
abbrev pub arrivals_limit : ℕ
arrivals_limit = 4096

-- how many arrivals a list has
abbrev pub arrivals_in : List ℕ → ℕ
arrivals_in xs = length xs / 3

-- arrival k's time
abbrev pub arrival_time : List ℕ → ℕ → ℕ
arrival_time xs k = get_or xs (3 * k) 0

-- its task, from 1
abbrev pub arrival_task : List ℕ → ℕ → ℕ
arrival_task xs k = get_or xs (3 * k + 1) 0

-- its length
abbrev pub arrival_length : List ℕ → ℕ → ℕ
arrival_length xs k = get_or xs (3 * k + 2) 0

-- the time of the arrival before it, and 0 before the first
abbrev pub time_before : List ℕ → ℕ → ℕ
time_before xs zero = 0
time_before xs (suc k) = arrival_time xs k

-- its task's cost
abbrev pub arrival_cost : Plan → List ℕ → ℕ → ℕ
arrival_cost pl xs k = (task_line pl (arrival_task xs k)).cost.0

-- an arrival's tests: 25, it is beyond 4,096 or for a task not in the table; 26, its length is outside 1 to cost; 27, its time is below the one before; or 0
abbrev pub tests_of : ℕ → ℕ → ℕ → ℕ → ℕ → ℕ → ℕ → ℕ
tests_of k count task cost len before time =
    cond (leb arrivals_limit k || outside count task) arrival_no
    (cond (outside cost len) length_no (cond (ltb time before) order_no 0))

-- those of arrival k
unfoldable pub arrival_tests : Plan → List ℕ → ℕ → ℕ
arrival_tests pl xs k =
    tests_of k pl.count (arrival_task xs k) (arrival_cost pl xs k) (arrival_length xs k) (time_before xs k) (arrival_time xs k)

-- its refusal, which names it from 1
abbrev pub arrival_refusal : Plan → List ℕ → ℕ → Refusal
arrival_refusal pl xs k = cond (eqb (arrival_tests pl xs k) 0) taken (refusal (arrival_tests pl xs k) (k + 1))

-- the first of n arrivals from one on that is refused
unfoldable pub refusal_from : Plan → List ℕ → ℕ → ℕ → Refusal
refusal_from pl xs k zero = taken
refusal_from pl xs k (suc n) = arrival_refusal pl xs k or_else refusal_from pl xs (k + 1) n

-- of the first n arrivals
unfoldable pub arrivals_refusal : Plan → List ℕ → ℕ → Refusal
arrivals_refusal pl xs n = refusal_from pl xs 0 n
