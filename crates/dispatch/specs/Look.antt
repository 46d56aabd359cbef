-- Look: one core's choice.
use Rattle.std.specs.Prelude.{ℕ, zero, suc, ◌-◌, cond, eqb, Result, Ok, Err}
use Rattle.units.specs.Limits.{tasks_limit}
use Rattle.units.specs.Units.{ticks}
use Rattle.units.specs.Refusals.{number, or_kept}
use Rattle.units.specs.declared.refusal.Reason.{Reason}
use Rattle.task_state.specs.Key.{deadline_of}
use Rattle.core_choice.specs.Choice.{better_task, choice_by}
use Rattle.dispatch.specs.declared.Record.{Record}
use Rattle.core_choice.specs.declared.Choice.{Choice}
use Rattle.core_choice.specs.declared.Choice.TheVariants.{Idle}
use Rattle.core_choice.specs.declared.Best.{Best}
use Rattle.core_choice.specs.declared.Told.{Told}
use Rattle.core_choice.specs.Told.{told_of}
use Rattle.dispatch.specs.Record.{line_at, state_at}
use Rattle.dispatch.specs.Refusals.{look_refusal}

-- the best of the first n tasks, at the record's clock
unfoldable pub best_of : Record → ℕ → ℕ → Best
best_of r k zero = record { task = 0; key = 0 }
best_of r k (suc n) = better_task (best_of r k n) (suc n) (line_at r n) (state_at r n) k r.clock.0

-- with the deadline of its oldest unfinished run
unfoldable pub choice_for : Record → Best → Choice
choice_for r b = choice_by b (deadline_of (state_at r (b.task - 1)))

-- core k's choice, at the record's clock
unfoldable pub choice_of : Record → ℕ → Choice
choice_of r k = choice_for r (best_of r k tasks_limit)

-- the record with its clock set
abbrev pub at_time : Record → ℕ → Record
at_time r t = record { plan = r.plan; clock = ticks t; states = r.states }

-- the refusal's number, or 0 with the choice; and the record after the call
pub record Looked : Type 0 where
  pub refusal : ℕ
  pub choice : Choice
  pub next : Record

-- the same in numbers
pub record LookedTold : Type 0 where
  pub refusal : ℕ
  pub told : Told
  pub next : Record

-- look: the choice of the record with its clock set
unfoldable pub look_of : Record → ℕ → ℕ → Looked
look_of r k t =
    cond (eqb (look_refusal r k t) 0)
    (record { refusal = 0; choice = choice_of (at_time r t) k; next = at_time r t })
    (record { refusal = look_refusal r k t; choice = Idle; next = r })

-- what the code's answer tells
abbrev pub look_told : Result Choice Reason → Record → Looked
look_told (Ok choice) r = record { refusal = 0; choice = choice; next = r }
look_told (Err e) r = record { refusal = number e; choice = Idle; next = r }

-- what the code's answer in numbers tells; those of an idle core where it is refused
abbrev pub numbers_told : Result Told Reason → Record → LookedTold
numbers_told (Ok told) r = record { refusal = 0; told = told; next = r }
numbers_told (Err e) r = record { refusal = number e; told = told_of Idle; next = r }

-- look in numbers, with those that are answered where it is refused
unfoldable pub look_or : Record → ℕ → ℕ → Told → LookedTold
look_or r k t told = let a = look_of r k t in record { refusal = a.refusal; told = or_kept a.refusal (told_of a.choice) told; next = a.next }
