-- The unfinished runs, as the code says them. It stands for no rule; `proofs` shows that they are the model's.
use Rattle.std.specs.Prelude.{ℕ, zero, suc, ◌≤◌, ◌<◌, List, [], ◌++◌, get_or}
use Rattle.units.specs.Limits.{runs_limit, clock_limit}
use Rattle.seats.specs.declared.Seat.{Seat}
use Rattle.seats.specs.Seat.{no_seat}
use Rattle.day_lines.specs.declared.Event.{Event}
use Rattle.day_rules.specs.Day.{runs_left}

-- those of task i, from 0
abbrev pub left_at : List Seat → List ℕ → ℕ → List Event
left_at ss hs i =
    let x = get_or ss i no_seat in
    runs_left x.state x.work (get_or hs i 0) (suc i) x.state.live

-- those of the first n tasks
abbrev pub left_by : List Seat → List ℕ → ℕ → List Event
left_by ss hs zero = []
left_by ss hs (suc i) = left_by ss hs i ++ left_at ss hs i

-- each of them can be said
pub record Leavable (ss : List Seat) (n : ℕ) : Type 0 where
  pub few : (i : ℕ) → i < n → (get_or ss i no_seat).state.live ≤ runs_limit
  pub ended : (i : ℕ) → i < n → (get_or ss i no_seat).work.ended ≤ clock_limit
