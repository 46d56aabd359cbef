-- Each core's choice at a record's clock, in the words of documents 01 and 02, R-2. Tasks and cores are counted from 1.
use Rattle.std.specs.Prelude.{ℕ, ◌-◌, ◌≤◌, ◌<◌, ◌≡◌, true}
use Rattle.units.specs.Units.{ticks}
use Rattle.task_shares.specs.Movers.{fixed_on, moves_on, lower, upper}
use Rattle.planning.specs.Tasks.{task_shares}
use Rattle.task_state.specs.State.{run_at}
use Rattle.task_state.specs.Key.{deadline_of}
use Rattle.dispatch.specs.declared.Record.{Record}
use Rattle.core_choice.specs.declared.Side.TheVariants.{Upper, Lower}
use Rattle.core_choice.specs.declared.Choice.{Choice}
use Rattle.core_choice.specs.declared.Choice.TheVariants.{Idle, Fixed, Mover}
use Rattle.dispatch.specs.Record.{state_at}
use Rattle.dispatch.specs.Given.{task_state, oldest_release}

-- task i is one of the N tasks, and its oldest unfinished run is on core k and released
pub record Waits (r : Record) (k i : ℕ) : Type 0 where
  pub from : 1 ≤ i
  pub to : i ≤ r.plan.count
  pub unfinished : 0 < (task_state r i).live
  pub there : (run_at (task_state r i) 0).core ≡ k
  pub released : oldest_release r i ≤ r.clock.0

-- the deadline of that run
abbrev pub deadline_at : Record → ℕ → ℕ
deadline_at r i = deadline_of (state_at r (i - 1))

-- task i is a fixed task of core k
abbrev pub FixedOn : Record → ℕ → ℕ → Type 0
FixedOn r k i = fixed_on (k - 1) (task_shares r.plan i) ≡ true

-- a mover there
abbrev pub MovesOn : Record → ℕ → ℕ → Type 0
MovesOn r k i = moves_on (k - 1) (task_shares r.plan i) ≡ true

-- an upper one
abbrev pub UpperOn : Record → ℕ → ℕ → Type 0
UpperOn r k i = upper (k - 1) (task_shares r.plan i) ≡ true

-- a lower one
abbrev pub LowerOn : Record → ℕ → ℕ → Type 0
LowerOn r k i = lower (k - 1) (task_shares r.plan i) ≡ true

-- of two tasks that wait on core k, task j goes before task i
pub data GoesBefore (r : Record) (k j i : ℕ) : Type 0 where
  -- movers come before fixed tasks
  mover_first : MovesOn r k j → FixedOn r k i → GoesBefore r k j i
  -- upper goes before lower, whatever the deadlines
  upper_first : UpperOn r k j → LowerOn r k i → GoesBefore r k j i
  -- fixed tasks go by earliest deadline
  earliest : FixedOn r k j → FixedOn r k i → deadline_at r j < deadline_at r i → GoesBefore r k j i
  -- lowest task number at a tie
  lowest : FixedOn r k j → FixedOn r k i → deadline_at r j ≡ deadline_at r i → j < i → GoesBefore r k j i

-- task j waits on core k and goes before every other that does
abbrev pub GoesFirst : Record → ℕ → ℕ → Type 0
GoesFirst r k j = Waits r k j × ((i : ℕ) → Waits r k i → (i ≡ j → ⊥) → GoesBefore r k j i)

-- core k's choice: idle, or the task that goes first, a fixed one with its deadline, or a mover with its deadline and whether it is upper or lower there
pub data Chosen (r : Record) (k : ℕ) : Choice → Type 0 where
  idle : ((i : ℕ) → Waits r k i → ⊥) → Chosen r k Idle
  as_fixed : (j : ℕ) → GoesFirst r k j → FixedOn r k j → Chosen r k (Fixed j (ticks (deadline_at r j)))
  as_upper : (j : ℕ) → GoesFirst r k j → UpperOn r k j → Chosen r k (Mover j (ticks (deadline_at r j)) Upper)
  as_lower : (j : ℕ) → GoesFirst r k j → LowerOn r k j → Chosen r k (Mover j (ticks (deadline_at r j)) Lower)
