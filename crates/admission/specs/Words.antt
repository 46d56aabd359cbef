-- Document 01, "Numbers and units" and "Refusal numbers", said of a core count m and a table xs, cost then period for each task; tasks are counted from 0.
use Rattle.std.specs.Prelude.{ℕ, ◌+◌, ◌*◌, ◌/◌, ◌%◌, ◌≤◌, ◌<◌, ◌≡◌, ◌⊎◌, List, length, get_or}
use Rattle.units.specs.Limits.{cores_limit, tasks_limit, period_limit, common_limit}
use Rattle.lists.specs.Lists.{total}
use Rattle.arith.specs.Period.{periods, common}
use Rattle.admission.specs.Weight.{weights}

-- core count 1 to 16
abbrev pub CoresIn : ℕ → Type 0
CoresIn m = (0 < m) × (m ≤ cores_limit)

-- core count 0 or above 16
abbrev pub CoresOut : ℕ → Type 0
CoresOut m = (m ≡ 0) ⊎ (cores_limit < m)

-- a table of 1 to 64 whole tasks
abbrev pub TableIn : List ℕ → Type 0
TableIn xs = (0 < length xs) × (length xs ≤ 2 * tasks_limit) × (length xs % 2 ≡ 0)

-- a table empty, over 64 tasks, or ending inside a task
abbrev pub TableOut : List ℕ → Type 0
TableOut xs = (length xs ≡ 0) ⊎ (2 * tasks_limit < length xs) ⊎ (length xs % 2 ≡ 1)

-- how many tasks
abbrev pub tasks : List ℕ → ℕ
tasks xs = length xs / 2

-- the cost C of task k
abbrev pub cost : List ℕ → ℕ → ℕ
cost xs k = get_or xs (2 * k) 0

-- its period T
abbrev pub period : List ℕ → ℕ → ℕ
period xs k = get_or xs (2 * k + 1) 0

-- the common period L
abbrev pub common_of : List ℕ → ℕ
common_of xs = common (periods xs)

-- the weights
abbrev pub weights_of : List ℕ → List ℕ
weights_of xs = weights (common_of xs) xs

-- the weight w of task k
abbrev pub weight_of : List ℕ → ℕ → ℕ
weight_of xs k = get_or (weights_of xs) k 0

-- task k has neither cost 0 nor period 0 nor a period above the limit
abbrev pub RangeIn : List ℕ → ℕ → Type 0
RangeIn xs k = (0 < cost xs k) × (0 < period xs k) × (period xs k ≤ period_limit)

-- task k has cost 0, period 0 or a period above the limit
abbrev pub RangeOut : List ℕ → ℕ → Type 0
RangeOut xs k = (cost xs k ≡ 0) ⊎ (period xs k ≡ 0) ⊎ (period_limit < period xs k)

-- the cost of task k does not exceed its period: it asks for no more than one core
abbrev pub CostIn : List ℕ → ℕ → Type 0
CostIn xs k = cost xs k ≤ period xs k

-- it does
abbrev pub CostOver : List ℕ → ℕ → Type 0
CostOver xs k = period xs k < cost xs k

-- task k is faulty in neither way
abbrev pub Fine : List ℕ → ℕ → Type 0
Fine xs k = RangeIn xs k × CostIn xs k

-- every task is in range
abbrev pub RangesIn : List ℕ → Type 0
RangesIn xs = (k : ℕ) → k < tasks xs → RangeIn xs k

-- no task asks for more than one core
abbrev pub NoneOver : List ℕ → Type 0
NoneOver xs = (k : ℕ) → k < tasks xs → CostIn xs k

-- the common period is within its limit
abbrev pub PeriodIn : List ℕ → Type 0
PeriodIn xs = common_of xs ≤ common_limit

-- it is above its limit
abbrev pub PeriodOut : List ℕ → Type 0
PeriodOut xs = common_limit < common_of xs

-- all tasks together ask for no more than there is
abbrev pub AllFit : ℕ → List ℕ → Type 0
AllFit m xs = total (weights_of xs) ≤ m * common_of xs

-- they ask for more
abbrev pub Overfull : ℕ → List ℕ → Type 0
Overfull m xs = m * common_of xs < total (weights_of xs)
