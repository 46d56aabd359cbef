-- For the contracts of private functions alone: how the code keeps its numbers. It stands for no rule of document 01.
use Rattle.std.specs.Prelude.{ℕ, ◌+◌, ◌*◌, ◌-◌, ◌≤◌, ◌<◌, ◌≡◌, Bool, false, cond, List, ℤ, pos, length, get_or}
use Rattle.std.proofs.Math.IntN.{sub_ℕ}
use Rattle.units.specs.Limits.{cores_limit, tasks_limit, period_limit, common_limit}
use Rattle.units.specs.declared.share.Share.{Share}
use Rattle.units.specs.Units.{share, duration}
use Rattle.arith.specs.Ceiling.{ceil_div}
use Rattle.task_shares.specs.Movers.{first_core}
use Rattle.planning.specs.declared.Line.{Line}
use Rattle.planning.specs.Plan.{row_of}
use Rattle.lateness.specs.declared.bounds.Note.{Note}
use Rattle.lateness.specs.declared.movers.Mover.{Mover}
use Rattle.lateness.specs.declared.movers.Movers.{Movers}
use Rattle.lateness.specs.Lateness.{upper_on, lower_on, share_on}

-- a line as a mover with the share s and the first core f
abbrev pub mover : Share → Line → ℕ → Mover
mover s ln f = record { share = s; cost = ln.cost; period = ln.period; first = f }

-- as it is on core p
abbrev pub mover_on : ℕ → Line → Mover
mover_on p ln = mover (share (share_on p ln)) ln (first_core (row_of ln))

-- what stands past the last core
abbrev pub no_mover : Mover
no_mover = record { share = share 0; cost = duration 0; period = duration 0; first = 0 }

-- the movers of each core with one line more in front, which takes the place of those on the cores of a test
abbrev pub InFront : (ℕ → Bool) → Line → List Mover → List Mover → Type 0
InFront f ln ms new = (p : ℕ) → p < cores_limit → get_or new p no_mover ≡ cond (f p) (mover_on p ln) (get_or ms p no_mover)

-- the movers of lines, on each core
pub record MoversOf (lns : List Line) (ms : Movers) : Type 0 where
  pub uppers : (p : ℕ) → p < cores_limit → get_or ms.upper p no_mover ≡ mover_on p (upper_on p lns)
  pub lowers : (p : ℕ) → p < cores_limit → get_or ms.lower p no_mover ≡ mover_on p (lower_on p lns)

-- s × (D + 2T) of a mover
abbrev pub push_by : List ℕ → Mover → ℕ
push_by rs m = m.share.0 * (get_or rs m.first 0 + m.period.0)

-- the reach of a lower mover m, with the upper mover h
abbrev pub reach_by : ℕ → List ℕ → Mover → Mover → ℕ
reach_by l rs h m = ceil_div (push_by rs h + l * (2 * h.cost.0 + m.cost.0)) (l - h.share.0)

-- a fixed task's bound, from the upper mover h and the lower mover m of its core
abbrev pub pair_late : ℕ → List ℕ → Mover → Mover → ℕ
pair_late l rs h m = ceil_div (push_by rs h + push_by rs m + l * (2 * h.cost.0 + 2 * m.cost.0)) (l - h.share.0 - m.share.0)

-- what stands past the last task
abbrev pub no_note : Note
no_note = record { moves = false; period = duration 0; first = 0 }

-- a task's bound from the reaches of movers and the bounds of fixed tasks
abbrev pub late_at : List ℕ → List ℕ → Note → ℤ
late_at rs fixed n = cond n.moves (sub_ℕ (get_or rs n.first 0) n.period.0) (pos (get_or fixed n.first 0))

-- each bound is its task's, from what is noted of it
abbrev pub EachLate : List ℕ → List ℕ → List Note → List ℤ → Type 0
EachLate rs fixed notes lates = (i : ℕ) → i < tasks_limit → get_or lates i (pos 0) ≡ late_at rs fixed (get_or notes i no_note)

-- a mover's reach, at most
abbrev pub reach_limit : ℕ
reach_limit = 7 * period_limit * cores_limit

-- a bound, at most
abbrev pub late_limit : ℕ
late_limit = 1000000000

-- a mover, with the reaches of movers by their first core
pub record MoverInRange (rs : List ℕ) (m : Mover) : Type 0 where
  pub share : m.share.0 ≤ common_limit
  pub reach : get_or rs m.first 0 ≤ reach_limit
  pub period : m.period.0 ≤ period_limit
  pub cost : m.cost.0 ≤ period_limit

-- the upper mover h and the lower mover m of a core, which has l units
pub record PairInRange (l : ℕ) (rs : List ℕ) (h m : Mover) : Type 0 where
  pub common : l ≤ common_limit
  pub room : h.share.0 + m.share.0 ≤ l
  pub upper : MoverInRange rs h
  pub lower : MoverInRange rs m

-- all that bounds are worked out from: what is noted of each task, the reaches of movers and the bounds of fixed tasks
pub record BoundsReady (notes : List Note) (rs fixed : List ℕ) : Type 0 where
  pub notes_long : length notes ≡ tasks_limit
  pub reaches_long : length rs ≡ cores_limit
  pub fixed_long : length fixed ≡ cores_limit
  pub period : (i : ℕ) → (get_or notes i no_note).period.0 ≤ period_limit
  pub reach : (p : ℕ) → get_or rs p 0 ≤ late_limit
  pub late : (p : ℕ) → get_or fixed p 0 ≤ late_limit
