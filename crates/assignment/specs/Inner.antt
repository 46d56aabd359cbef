-- For the contracts of private functions alone: how the code keeps its numbers. It stands for no rule of document 01.
-- Both passes over tasks that stand in order: each task's weight is looked up, and its row goes to its number.
use Rattle.std.specs.Prelude.{ℕ, ◌≤◌, ◌<◌, ◌≡◌, List, map, length, get_or, take, drop}
use Rattle.units.specs.Limits.{tasks_limit}
use Rattle.ordering.specs.declared.Order.{Order}
use Rattle.assignment.specs.Passes.{pass_two, passes, scatter}

-- the weights of the tasks ts
abbrev pub weigh : List ℕ → List ℕ → List ℕ
weigh ws ts = map (λ (t : ℕ). get_or ws t 0) ts

-- pass two alone, with the pointer at core p
abbrev pub assign_two : ℕ → List ℕ → List ℕ → List ℕ → List (List ℕ) → List (List ℕ)
assign_two p ws ts room tab = scatter ts (pass_two p (weigh ws ts) room) tab

-- both passes
abbrev pub assign : List ℕ → List ℕ → List ℕ → List (List ℕ) → List (List ℕ)
assign ws ts room tab = scatter ts (passes (weigh ws ts) room) tab

-- the tasks of an order, from the k-th on
abbrev pub from : Order → ℕ → List ℕ
from o k = drop k (take o.count o.tasks)

-- its tasks are among the box's
pub record Among (o : Order) : Type 0 where
  pub long : length o.tasks ≡ tasks_limit
  pub few : o.count ≤ tasks_limit
  pub low : (i : ℕ) → i < o.count → get_or o.tasks i 0 < tasks_limit
